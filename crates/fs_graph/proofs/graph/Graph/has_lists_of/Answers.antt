use Rattle.std.proofs.Common.{◌==◌, refl, sym, ◌∙◌, ap}
use Rattle.std.proofs.lemmas.Slice.Eq.{slice_eq-Decides}
use Rattle.fs_graph.specs.Inside.{graph_map}
use Rattle.fs_graph.proofs.SameLemmas.{arc_eq, arc_eq-Decides, ty_eq, ty_eq-Decides, number_eq-Decides, no_unlike}
use Rattle.fs_graph.proofs.graph.Graph.has_lists_of.Goals as goal

pub returns : goal.returns
returns c = λ e.
    let types = sym c.as_slice.ensures.value ∙ (slice_eq-Decides {E = ty_eq} ty_eq-Decides _ _ _ refl).0 (no_unlike c.ne.ensures c.if-ne.false) ∙ c.as_slice-2.ensures.value in
    let starts = sym c.as_slice-3.ensures.value ∙ (slice_eq-Decides {E = λ a b. a == b} number_eq-Decides _ _ _ refl).0 (no_unlike c.ne-2.ensures c.if-ne-2.false) ∙ c.as_slice-4.ensures.value in
    let arcs = sym c.as_slice-5.ensures.value ∙ (slice_eq-Decides {E = arc_eq} arc_eq-Decides _ _ c.eq.result c.eq.ensures).0 e ∙ c.as_slice-6.ensures.value in
    sym c.self.view_is
    ∙ ap (λ l. graph_map l c.self.inside.starts.items c.self.inside.arcs.items) types
    ∙ ap (λ l. graph_map c.other.inside.types.items l c.self.inside.arcs.items) starts
    ∙ ap (graph_map c.other.inside.types.items c.other.inside.starts.items) arcs
    ∙ c.other.view_is
