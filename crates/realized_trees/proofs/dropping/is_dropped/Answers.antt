use Rattle.std.proofs.Common.{◌≡◌, ◌∙◌, false, true, sym, ap, subst}
use Rattle.std.specs.Prelude.{◌↔◌, IsTrue}
use Rattle.type_hierarchy.specs.Table.{TypeTable}
use Rattle.fs_graph.specs.GraphMap.{GraphMap, IsGraph}
use Rattle.fs_unify.specs.Rules.{Grammar}
use Rattle.mrs_places.specs.Paths.{paths_of}
use Rattle.rule_trees.specs.Mothers.{view_in}
use Rattle.relation_fit.specs.Lists.{list_seen}
use Rattle.relation_fit.specs.Tests.{has_misfit}
use Rattle.realized_trees.specs.Sieves.{MayDrop, IsDropped}
use Rattle.realized_trees.proofs.Tested.{typed_in, tested}
use Rattle.realized_trees.proofs.dropping.is_dropped.Goals as goal

pub returns-in_default : goal.returns-in_default
returns-in_default c = (
  λ y. absurd (let z : false ≡ true = y in cc),
  λ d. absurd (subst (λ o. MayDrop c.args.signs.now (paths_of c.args.paths.now) o (view_in c.args.signs.now c.args.full.now.graph)) c.in_default.is d),
)

pub has_misfit-requires : goal.has_misfit-requires
has_misfit-requires c = record {
  typed = typed_in c.args.signs.now c.types.result.now (c.types.ensures ∙ ap (λ (g : Grammar). g.types) c.system.ensures) c.graph-2.result.now c.args.full.now.graph.plain c.graph-2.ensures c.laws.ensures.short;
}

pub returns : goal.returns
returns c =
    let t = c.args.signs.now in
    let p = paths_of c.args.paths.now in
    let s = c.in-Some.sieve in
    let f = c.args.full.now.graph.plain in
    let types = c.types.ensures ∙ ap (λ (g : Grammar). g.types) c.system.ensures in
    subst (λ o. IsTrue c.has_misfit.result ↔ MayDrop t p o (view_in t c.args.full.now.graph)) (sym c.in-Some.is)
    (subst (λ m. IsTrue c.has_misfit.result ↔ IsDropped t p s m) (sym c.laws.ensures.seen)
    (tested t p s f (subst IsGraph c.graph.ensures c.laws-2.ensures) c.laws.ensures.short c.has_misfit.result
    (c.has_misfit.ensures.is ∙ ap (λ (ty : TypeTable). has_misfit ty c.graph-2.result.now p s.sought.eps.items (list_seen s.list.now)) types
    ∙ ap (λ (x : GraphMap). has_misfit t.book.system.types x p s.sought.eps.items (list_seen s.list.now)) c.graph-2.ensures)))
