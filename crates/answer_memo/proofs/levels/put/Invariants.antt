use Rattle.std.proofs.Common.{◌≡◌}
use Rattle.answer_memo.proofs.levels.put.Given as goal

abbrev pub invariant-loop-after : goal.invariant-loop-after
invariant-loop-after g l = l.answer ≡ l.fn.answer
