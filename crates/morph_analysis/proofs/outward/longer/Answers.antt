use Rattle.std.proofs.Common.{◌++◌, ◌∷◌, [], sym, subst}
use Rattle.morph_analysis.specs.Views.{edge_of}
use Rattle.morph_analysis.proofs.RouteLemmas.{none_along}
use Rattle.morph_analysis.proofs.outward.longer.Goals as goal

pub returns-in-None : goal.returns-in-None
returns-in-None g c =
    let A = g.M.Maker.makes c.args.search.now.maker.now in
    let none = rw c.in-None.is at c.in_ok-go_on.ensures in
    none_along c.args.graph.now A c.args.search.now.depth c.laws.ensures.inner c.args.route.now.rules.items (edge_of c.args.edge) c.args.entry
    (λ v a. none v (subst (λ l. A c.args.entry (l ++ c.args.edge.rule ∷ []) v) (sym c.deref.ensures.value) a))
