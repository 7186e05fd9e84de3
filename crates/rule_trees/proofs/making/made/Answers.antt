use Rattle.std.proofs.Common.{◌<◌, ◌∙◌, length, map, sym, subst, arith, []}
use Rattle.std.specs.Prelude.{option_map, IfSome, List}
use Rattle.std.proofs.lemmas.List.{length-map}
use Rattle.fs_model.specs.Claims.{Has, IsBare}
use Rattle.fs_graph.specs.GraphMap.{reader_of}
use Rattle.fs_unify.specs.Rules.{Grammar, system_of}
use Rattle.tree_model.specs.Mothers.{daughters_cut}
use Rattle.tree_model.specs.Signs.{rule_system}
use Rattle.fs_unify.specs.Placing.{PlacedGraph, IsPlacedIn, source_of}
use Rattle.fs_trim.specs.Cutting.{cut_of, owed_of, IsShort}
use Rattle.tree_model.specs.Views.{IsTrimmed}
use Rattle.book_signs.specs.Trees.{signs_of, paths_of}
use Rattle.rule_trees.proofs.MakingLemmas.{made, placed_in, has_place, has_places}
use Rattle.rule_trees.proofs.making.made.Goals as goal

pub structure-requires : goal.structure-requires
structure-requires c = has_place (signs_of c.args.signs.now) c.args.place (length c.args.daughters.now) c.requires.rule

pub places-requires : goal.places-requires
places-requires c = has_place (signs_of c.args.signs.now) c.args.place (length c.args.daughters.now) c.requires.rule

pub parts_with-requires : goal.parts_with-requires
parts_with-requires c =
    let z = has_places (signs_of c.args.signs.now) c.args.place (length c.args.daughters.now) (paths_of c.places.result.now) c.requires.rule c.places.ensures.places in
    sym z ∙ length-map c.places.result.now (λ p. _)

pub unify_without-requires-clause-bare : goal.unify_without-requires-clause-bare
unify_without-requires-clause-bare c = subst (λ (s : Grammar). IsBare (system_of s)) (sym c.system.ensures) c.laws.ensures.whole.bare

pub unify_without-requires-clause-some : goal.unify_without-requires-clause-some
unify_without-requires-clause-some c = subst (λ (ps : List PlacedGraph). 0 < length ps) (sym c.in_ok-parts.ensures) (omega arith)

pub unify_without-requires-clause-parts : goal.unify_without-requires-clause-parts
unify_without-requires-clause-parts c p h =
    subst (λ (s : Grammar). IsPlacedIn s p) (sym c.system.ensures)
    (placed_in c.args.signs.now.book.system (owed_of (daughters_cut (rule_system (signs_of c.args.signs.now)))) c.owed.result.now c.owed.ensures c.structure.result.now (paths_of c.places.result.now) (map (λ d. d.now) c.args.daughters.now) c.structure.ensures.closed c.places.ensures.within c.requires.short c.requires.owes p (subst (Has p) c.in_ok-parts.ensures h))

pub returns : goal.returns
returns c =
    let t = c.args.signs.now in
    made t c.owed.result.now c.args.place c.structure.result.now (paths_of c.places.result.now) (map (λ d. d.now) c.args.daughters.now) c.in_ok-parts.parts c.in_ok-graph.graph c.structure.ensures.facts c.places.ensures.places c.structure.ensures.short c.requires.short c.in_ok-parts.ensures
    (subst (λ k. IsTrimmed (system_of t.book.system) (source_of c.in_ok-parts.parts) [] k (option_map reader_of c.in_ok-graph.graph)) c.daughters.ensures
    (subst (λ (s : Grammar). IsTrimmed (system_of s) (source_of c.in_ok-parts.parts) [] (cut_of c.daughters.result.now) (option_map reader_of c.in_ok-graph.graph)) c.system.ensures c.in_ok-graph.ensures.answer))
    (subst (λ (s : Grammar). IfSome c.in_ok-graph.graph (IsShort s)) c.system.ensures c.in_ok-graph.ensures.known)
