use Rattle.std.proofs.Common.{◌≡◌}
use Rattle.shape_memo.proofs.memo.Memo.keep.Given as goal

abbrev pub invariant-loop-level : goal.invariant-loop-level
invariant-loop-level g l = l.answer ≡ l.fn.answer
