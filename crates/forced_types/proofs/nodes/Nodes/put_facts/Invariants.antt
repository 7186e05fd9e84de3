use Rattle.forced_types.specs.Inner.Sound.{AreSound}
use Rattle.forced_types.proofs.nodes.Nodes.put_facts.Given as goal

abbrev pub invariant-loop-k : goal.invariant-loop-k
invariant-loop-k l = AreSound l.given l.self
