use Rattle.forced_types.specs.Inner.Sound.{AreSound}
use Rattle.forced_types.proofs.verdict.closed_nodes.Given as goal

abbrev pub invariant-loop : goal.invariant-loop
invariant-loop l = AreSound l.given l.nodes
