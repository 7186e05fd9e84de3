use Rattle.std.proofs.Common.{◌<◌, length, sym, ◌∙◌, ap, subst, arith}
use Rattle.std.proofs.lemmas.List.{length-map}
use Rattle.fs_graph.specs.GraphMap.{arcs_at}
use Rattle.fs_graph.proofs.RowLemmas.{read_row}
use Rattle.fs_graph.proofs.graph.Graph.arcs.Goals as goal

pub returns : goal.returns
returns c =
    let view = c.self.view_is in
    let size = length-map c.self.inside.types.items (λ t. t.0) in
    let h = subst (λ g. c.args.n.0 < length g.types) (sym view) c.requires in
    read_row c.self.inside.types.items c.self.inside.starts.items c.self.inside.arcs.items c.deref.result.now c.args.n.0 c.index.result.now c.index-2.result.now
    c.self.invariant.rows (omega arith) c.index.ensures c.index-2.ensures c.deref.ensures.value ∙ ap (λ g. arcs_at g c.args.n.0) view
