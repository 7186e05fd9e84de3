use Rattle.std.proofs.Common.{refl, sym}
use Rattle.morph_analysis.proofs.NodeLemmas.{edge_set}
use Rattle.morph_analysis.proofs.nodes.add_edge.Goals as goal

pub returns-in_ok-push : goal.returns-in_ok-push
returns-in_ok-push c =
    edge_set c.args.nodes.now.entries c.args.node c.in-Some.one.now (record { distance = c.in-Some.one.now.distance; edges = c.push.new.self }) c.args.edge (sym c.in-Some.ensures.value) refl c.in_ok-push.ensures.items
