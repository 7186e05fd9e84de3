use Rattle.fs_graph.specs.PathLists.{IsListed, lines_left}
use Rattle.fs_graph.proofs.graph.Graph.paths.Given as goal

abbrev pub invariant-loop-next : goal.invariant-loop-next
invariant-loop-next l = IsListed l.self l.lines.lines.items l.lines.firsts.items l.lines.waiting.items

abbrev pub decreases-loop-next : goal.decreases-loop-next
decreases-loop-next l = lines_left l.self l.lines.firsts.items l.lines.waiting.items
