use Rattle.forced_types.specs.Inner.Sound.{AreSound}
use Rattle.forced_types.proofs.nodes.Nodes.close_within.Given as goal

abbrev pub invariant-loop : goal.invariant-loop
invariant-loop l = AreSound l.given l.self
