-- The features of statements of both kinds.
use Rattle.std.proofs.Common.{◌≡◌, List, [], map, filter, sym, ◌∙◌, ap}
use Rattle.std.specs.List.{flat_map}
use Rattle.std.proofs.lemmas.List.{map-append}
use Rattle.type_hierarchy.specs.Decls.{Name}
use Rattle.body_facts.specs.Writing.{ListNames}
use Rattle.body_facts.specs.BracketUses.{Used}
use Rattle.constraint_expand.specs.declared.kinds.Kind.{Kind}
use Rattle.constraint_expand.specs.declared.kinds.Kind.TheVariants.{Types, Instances}
use Rattle.grammar_files.specs.Placings.{PlacedTree}
use Rattle.constraint_expand.specs.Kinds.{picks}
use Rattle.constraint_expand.specs.Features.{uses_in, features_used}
use Rattle.constraint_expand.specs.Found.{with_each}
use Rattle.constraint_expand.proofs.NameLemmas.{with_each-append}

-- those of types, and then those of instances
pub features_both : (n : ListNames) (ps : List PlacedTree) (empty typed ended : List Name) → empty ≡ [] →
    typed ≡ with_each empty (map (λ u. u.feature) (flat_map (uses_in n) (filter (picks Types) ps))) →
    ended ≡ with_each typed (map (λ u. u.feature) (flat_map (uses_in n) (filter (picks Instances) ps))) → ended ≡ with_each [] (features_used n ps)
features_both n ps empty typed ended begun types_are both_are =
    both_are ∙ ap (λ l. with_each l (features_of Instances)) (types_are ∙ ap (λ l. with_each l (features_of Types)) begun)
    ∙ sym (with_each-append [] (features_of Types) (features_of Instances))
    ∙ ap (with_each []) (sym (map-append (λ (u : Used). u.feature) (uses_of Types) (uses_of Instances)))
  where
    uses_of : Kind → List Used
    uses_of kind = flat_map (uses_in n) (filter (picks kind) ps)

    features_of : Kind → List Name
    features_of kind = map (λ u. u.feature) (uses_of kind)
