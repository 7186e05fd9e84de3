use Rattle.std.proofs.Common.{◌≡◌, ◌∙◌, Some, sym, ap, subst}
use Rattle.fs_graph.specs.GraphMap.{node_at}
use Rattle.fs_graph.specs.Facts.{path_of}
use Rattle.relation_fit.specs.Lists.{list_seen}
use Rattle.relation_fit.specs.Inner.Cells.{nodes_of}
use Rattle.relation_fit.proofs.Nodes.{node_inside}
use Rattle.relation_fit.proofs.Walked.{Before, before_none, before_more, nodes_more}
use Rattle.relation_fit.proofs.cells.cells.Goals as goal

pub loop-turn-init : goal.loop-turn-init
loop-turn-init c =
    let g = c.args.graph.now in
    let l = list_seen c.args.list.now in
    let at : node_at g (path_of c.args.list.now.start.items) ≡ Some c.in-Some-at.node.0 = ap (λ p. node_at g (path_of p)) (sym c.deref-2.ensures.value) ∙ sym c.in-Some-at.ensures in
    record {
      before = subst (λ ns. Before g l (nodes_of ns) c.in-Some-at.node.0) (sym c.new-cells.ensures.items) (before_none g l c.in-Some-at.node.0 at);
      inside = node_inside g c.nodes-turn-end.ensures.graph (path_of c.args.list.now.start.items) c.in-Some-at.node.0 at;
    }

pub loop-turn-preserved : goal.loop-turn-preserved
loop-turn-preserved c =
    let g = c.args.graph.now in
    let l = list_seen c.args.list.now in
    let more = before_more g l c.nodes-turn-end.ensures.graph (nodes_of c.loop-turn.cells.items) c.loop-turn.node.0 c.in-Some-next.to.0 c.loop-turn.invariant.before (sym c.in-Some-next.ensures.at) in
    record {
      before = subst (λ ns. Before g l ns c.in-Some-next.to.0) (sym (ap nodes_of c.in_ok-push.ensures.items ∙ nodes_more c.loop-turn.cells.items c.loop-turn.node)) more;
      inside = c.in-Some-next.ensures.inside;
    }
