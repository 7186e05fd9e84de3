use Rattle.std.proofs.Common.{◌+◌}
use Rattle.side_by_side.specs.Works.{AreGiven}
use Rattle.endings.specs.Inner.Batches.{IsTold}
use Rattle.endings.proofs.answering.answer_again.Given as goal

abbrev pub invariant-loop-place : goal.invariant-loop-place
invariant-loop-place g l = AreGiven (λ place line a. IsTold (g.C.Answers.IsAnswer l.command) (g.C.Answers.IsNote l.command) (l.number + place) line.items a) 0 l.lines l.told.items
