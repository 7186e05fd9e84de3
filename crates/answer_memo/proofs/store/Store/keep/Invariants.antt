use Rattle.std.proofs.Common.{◌≡◌}
use Rattle.answer_memo.proofs.store.Store.keep.Given as goal

abbrev pub invariant-loop-level : goal.invariant-loop-level
invariant-loop-level g l = l.answer ≡ l.fn.answer
