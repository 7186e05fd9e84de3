use Rattle.forced_types.specs.Inner.Sound.{AreSound}
use Rattle.forced_types.proofs.nodes.Nodes.flatten.Given as goal

abbrev pub invariant-loop-n : goal.invariant-loop-n
invariant-loop-n l = AreSound l.given l.self
