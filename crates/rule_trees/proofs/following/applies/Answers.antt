use Rattle.std.proofs.Common.{◌<◌, ◌∙◌, length, sym, subst, arith, [], ◌∷◌}
use Rattle.std.specs.Prelude.{◌↔◌, IsTrue, List}
use Rattle.std.proofs.lemmas.List.{length-map}
use Rattle.fs_model.specs.Claims.{Has, IsBare}
use Rattle.fs_model.specs.Closure.{IsConsistent}
use Rattle.fs_model.specs.Sources.{Told}
use Rattle.fs_unify.specs.Rules.{Grammar, system_of}
use Rattle.fs_trim.specs.Cutting.{owed_of}
use Rattle.tree_model.specs.Mothers.{daughters_cut}
use Rattle.tree_model.specs.Signs.{rule_system}
use Rattle.fs_unify.specs.Placing.{PlacedGraph, IsPlacedIn, source_of}
use Rattle.book_signs.specs.Trees.{signs_of, paths_of}
use Rattle.rule_trees.proofs.MakingLemmas.{placed_in, has_place, has_places}
use Rattle.rule_trees.proofs.FollowLemmas.{never_applies}
use Rattle.rule_trees.proofs.OweLemmas.{one_owes}
use Rattle.rule_trees.proofs.following.applies.Goals as goal

pub structure-requires : goal.structure-requires
structure-requires c = has_place (signs_of c.args.signs.now) c.args.place 1 c.requires.rule

pub places-requires : goal.places-requires
places-requires c = has_place (signs_of c.args.signs.now) c.args.place 1 c.requires.rule

pub parts_with-requires : goal.parts_with-requires
parts_with-requires c =
    let z = has_places (signs_of c.args.signs.now) c.args.place 1 (paths_of c.places.result.now) c.requires.rule c.places.ensures.places in
    sym z ∙ length-map c.places.result.now (λ p. _)

pub unifies-requires-clause-bare : goal.unifies-requires-clause-bare
unifies-requires-clause-bare c = subst (λ (s : Grammar). IsBare (system_of s)) (sym c.system.ensures) c.laws.ensures.whole.bare

pub unifies-requires-clause-some : goal.unifies-requires-clause-some
unifies-requires-clause-some c = subst (λ (ps : List PlacedGraph). 0 < length ps) (sym c.in_ok-parts.ensures) (omega arith)

pub unifies-requires-clause-parts : goal.unifies-requires-clause-parts
unifies-requires-clause-parts c p h =
    subst (λ (s : Grammar). IsPlacedIn s p) (sym c.system.ensures)
    (placed_in c.args.signs.now.book.system (owed_of (daughters_cut (rule_system (signs_of c.args.signs.now)))) c.owed.result.now c.owed.ensures c.structure.result.now (paths_of c.places.result.now) (c.args.daughter.now ∷ []) c.structure.ensures.closed c.places.ensures.within (λ k d l. grind arith) (one_owes c.args.signs.now c.args.daughter.now c.requires.owes) p (subst (Has p) c.in_ok-parts.ensures h))

pub returns : goal.returns
returns c = λ off.
    never_applies c.args.signs.now c.owed.result.now c.args.place c.structure.result.now (paths_of c.places.result.now) c.args.daughter.now c.in_ok-parts.parts c.in_ok-yes.yes c.structure.ensures.facts c.places.ensures.places c.structure.ensures.short c.requires.short c.in_ok-parts.ensures
    (subst (λ (s : Grammar). IsTrue c.in_ok-yes.yes ↔ IsConsistent (system_of s) (Told (source_of c.in_ok-parts.parts))) c.system.ensures c.in_ok-yes.ensures.answer) off
