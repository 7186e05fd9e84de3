use Rattle.fs_drawing.specs.Inner.Climbing.{AreClimbing}
use Rattle.fs_drawing.proofs.bounds.bounded.Given as goal

abbrev pub invariant-loop : goal.invariant-loop
invariant-loop l = AreClimbing l.nodes l.limit l.heights
