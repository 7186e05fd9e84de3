use Rattle.std.proofs.Common.{◌≡◌, Some, option_map, sym, ap, subst}
use Rattle.std.specs.Arc.{arc_value}
use Rattle.tree_model.specs.Structures.{Structure}
use Rattle.rule_trees.specs.Mothers.{view_in}
use Rattle.grammar_rules.specs.Told.{seen_in}
use Rattle.grammar_rules.proofs.parts.same_part.Goals as goal

pub returns-in-Some-Some : goal.returns-in-Some-Some
returns-in-Some-Some c = λ yes.
    let t = c.args.signs.now in
    let seen : view_in t (arc_value c.in-Some-Some.full).graph ≡ view_in t (arc_value c.in-Some-Some.other).graph =
    subst (λ f. view_in t f.graph ≡ view_in t (arc_value c.in-Some-Some.other).graph) c.deref.ensures
    (subst (λ f. view_in t c.deref.result.now.graph ≡ view_in t f.graph) c.deref-in-Some-Some.ensures (c.same.ensures yes)) in
    subst (λ o. option_map (seen_in t) o ≡ option_map (seen_in t) c.args.other.now) (sym c.in-Some-Some.is-0)
    (subst (λ o. option_map (seen_in t) (Some c.in-Some-Some.full) ≡ option_map (seen_in t) o) (sym c.in-Some-Some.is-1)
    (ap (λ (s : Structure). Some s) seen))
