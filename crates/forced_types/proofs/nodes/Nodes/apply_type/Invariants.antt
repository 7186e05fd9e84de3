use Rattle.forced_types.specs.Inner.Sound.{AreSound}
use Rattle.forced_types.proofs.nodes.Nodes.apply_type.Given as goal

abbrev pub invariant-loop-rule : goal.invariant-loop-rule
invariant-loop-rule l = AreSound l.given l.self
