use Rattle.fs_graph.specs.Inner.Renumbering.{AreRenumbered}
use Rattle.fs_graph.proofs.order.renumbered.Given as goal

abbrev pub invariant-loop-node : goal.invariant-loop-node
invariant-loop-node l = AreRenumbered l.types l.starts l.arcs l.numbers l.order l.node-index l.new_types.items l.new_starts.items l.new_arcs.items
