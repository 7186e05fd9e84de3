use Rattle.forced_types.specs.Inner.Told.{IsNodeTold}
use Rattle.forced_types.proofs.TypeLemmas.{one_more}
use Rattle.forced_types.proofs.nodes.Nodes.are_nodes_told.Goals as goal

pub loop-k-preserved : goal.loop-k-preserved
loop-k-preserved c =
    one_more (IsNodeTold c.args.given c.args.self.now c.args.graph.now c.args.spots.now) c.loop-k.k c.loop-k.invariant (c.is_node_told.ensures c.if-not-is_node_told.false)
