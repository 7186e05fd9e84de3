use Rattle.forced_types.specs.Inner.Counting.{AreFollowed}
use Rattle.forced_types.proofs.nodes.Nodes.has_few.Given as goal

abbrev pub invariant-loop-at : goal.invariant-loop-at
invariant-loop-at l = AreFollowed l.given l.self l.ends.items l.at
