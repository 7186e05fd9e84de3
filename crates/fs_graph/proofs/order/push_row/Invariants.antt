use Rattle.std.proofs.Common.{◌≡◌, ◌++◌, map, take}
use Rattle.fs_graph.specs.Inner.Renumbering.{renumber}
use Rattle.fs_graph.proofs.order.push_row.Given as goal

abbrev pub invariant-loop-arc : goal.invariant-loop-arc
invariant-loop-arc l = l.arcs.items ≡ l.fn.arcs.items ++ map (renumber l.numbers) (take l.arc-index l.row)
