use Rattle.std.proofs.Common.{◌≡◌, ◌++◌, take}
use Rattle.forced_types.specs.Inner.Counting.{ends_by}
use Rattle.forced_types.proofs.nodes.Nodes.push_ends.Given as goal

abbrev pub invariant-loop-arc : goal.invariant-loop-arc
invariant-loop-arc l = l.ends.items ≡ l.initial.ends.items ++ ends_by l.self l.size (take l.arc-index l.arcs)
