use Rattle.std.proofs.Common.{◌≡◌, arith}
use Rattle.forced_types.specs.Inner.Sound.{entry_in}
use Rattle.forced_types.specs.Inner.Closed.{IsNodeClosed}
use Rattle.forced_types.proofs.TypeLemmas.{one_more}
use Rattle.forced_types.proofs.nodes.Nodes.are_nodes_closed.Goals as goal

pub loop-n-preserved : goal.loop-n-preserved
loop-n-preserved c =
    one_more (λ j. (entry_in c.args.self.now j).up ≡ j → IsNodeClosed c.args.given c.args.self.now j) c.loop-n.n c.loop-n.invariant (c.is_node_closed.ensures c.if-not-is_node_closed.false)

pub returns : goal.returns
returns c = λ _ n h e. c.loop-n.invariant n (omega (arith, c.loop-n-test.false, c.size-n-end.ensures, h)) e
