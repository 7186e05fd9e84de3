use Rattle.std.proofs.Common.{◌≡◌, sym, ◌∙◌}
use Rattle.std.proofs.lemmas.Bool.{eqb-true}
use Rattle.std.proofs.lemmas.Slice.Eq.{slice_eq-Decides}
use Rattle.fs_graph.specs.GraphMap.{type_at}
use Rattle.fs_graph.proofs.SameLemmas.{arc_eq, arc_eq-Decides}
use Rattle.fs_graph.proofs.graph.Graph.same_node.Goals as goal

pub returns-then-eq : goal.returns-then-eq
returns-then-eq c =
    let d = slice_eq-Decides {E = arc_eq} arc_eq-Decides c.arcs.result.now c.arcs-then-eq.result.now c.eq-then-eq.result c.eq-then-eq.ensures in
    let t : type_at c.args.self.now c.args.n.0 ≡ type_at c.args.other.now c.args.n.0 =
    sym c.ty.ensures ∙ eqb-true c.ty.result.0 c.ty-2.result.0 (sym c.if-eq.ensures) ∙ c.ty-2.ensures in
    (λ e. (t, sym c.arcs.ensures ∙ d.0 e ∙ c.arcs-then-eq.ensures), λ s. d.1 (c.arcs.ensures ∙ s.1 ∙ sym c.arcs-then-eq.ensures))
