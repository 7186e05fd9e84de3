use Rattle.std.proofs.Common.{◌≡◌, subst}
use Rattle.std.specs.Arc.{arc_value}
use Rattle.rule_trees.specs.Fulls.{FullTree}
use Rattle.rule_trees.specs.Mothers.{view_in}
use Rattle.rule_trees.specs.Inner.Wholes.{IsAgain}
use Rattle.rule_trees.specs.declared.whole.Whole.{Whole}
use Rattle.rule_trees.proofs.BoundLemmas.{same_bounds}
use Rattle.rule_trees.proofs.full.FullStructure.same.Goals as goal

pub returns : goal.returns
returns c = λ yes.
    let t = c.args.signs.now in
    let a = arc_value c.self.inside.whole in
    let b = arc_value c.other.inside.whole in
    let again : IsAgain t a.bounded b.bounded =
    subst (λ (w : Whole). IsAgain t w.bounded b.bounded) c.deref.ensures (subst (λ (w : Whole). IsAgain t c.deref.result.now.bounded w.bounded) c.deref-2.ensures (c.same.ensures yes)) in
    subst (λ (f : FullTree). view_in t f.graph ≡ view_in t c.args.other.now.graph) c.self.view_is
    (subst (λ (f : FullTree). view_in t a.bounded ≡ view_in t f.graph) c.other.view_is
    (same_bounds t a.bounded b.bounded again.types again.feats again.limit again.seen))
