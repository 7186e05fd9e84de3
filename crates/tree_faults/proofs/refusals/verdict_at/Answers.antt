use Rattle.std.proofs.Common.{◌∙◌, ◌≡◌, ◌≤◌, Bor, length, map, sym, ap, subst, arith}
use Rattle.std.specs.Prelude.{All}
use Rattle.std.specs.Arc.{arc_value}
use Rattle.std.proofs.lemmas.List.{length-map}
use Rattle.type_hierarchy.specs.Table.{TypeTable, count_of, completed_count}
use Rattle.type_hierarchy.specs.Laws.{HasTypeLaws}
use Rattle.fs_model.specs.Sources.{Told}
use Rattle.fs_graph.specs.GraphMap.{GraphMap}
use Rattle.fs_closing.specs.Rules.{Grammar, system_of, IsGrammar}
use Rattle.forest_unpack.specs.Parts.{held_in, parts_of}
use Rattle.book_signs.specs.Trees.{signs_of, paths_of}
use Rattle.rule_trees.specs.Fulls.{FullTree}
use Rattle.rule_trees.specs.Mothers.{IsShortIn}
use Rattle.rule_trees.proofs.MakingLemmas.{has_place, has_places}
use Rattle.rule_trees.proofs.BoundLemmas.{all_short, fulls_seen}
use Rattle.forced_types.specs.Verdicts.{IsVerdict}
use Rattle.forced_types.specs.Views.{source_of, verdict_of, ArePartsIn}
use Rattle.tree_faults.specs.Inner.Structures.{placed_of, IsForcedAt}
use Rattle.tree_faults.proofs.Refusing.{some_in, all_in, verdict_named, verdict_forced}
use Rattle.tree_faults.proofs.refusals.verdict_at.Goals as goal

pub structure-requires : goal.structure-requires
structure-requires c = has_place (signs_of c.args.signs.now) c.args.place c.args.known.now.count c.requires.rule

pub places-requires : goal.places-requires
places-requires c = has_place (signs_of c.args.signs.now) c.args.place c.args.known.now.count c.requires.rule

pub placed-requires : goal.placed-requires
placed-requires c =
    let ds = c.deref.result.now in
    let known = c.args.known.now in
    let now = λ (b : Bor GraphMap). b.now in
    let graph = λ (f : FullTree). f.graph.plain in
    let z = has_places (signs_of c.args.signs.now) c.args.place known.count (paths_of c.places.result.now) c.requires.rule c.places.ensures.places in
    sym (length-map ds now) ∙ ap length (ap (map now) c.deref.ensures.value ∙ c.in_ok-graphs.ensures) ∙ length-map (parts_of known) graph ∙ length-map (held_in known) arc_value ∙ c.requires.parts.counted
    ∙ sym z ∙ length-map c.places.result.now (λ p. _)

pub verdict_on-requires-clause-some : goal.verdict_on-requires-clause-some
verdict_on-requires-clause-some c =
    some_in c.deref-2.result.now c.structure.result.now (paths_of c.places.result.now) (map (λ d. d.now) c.deref.result.now) (ap (map placed_of) c.deref-2.ensures.value ∙ c.in_ok-parts.ensures)

pub verdict_on-requires-clause-within : goal.verdict_on-requires-clause-within
verdict_on-requires-clause-within c =
    let t = c.args.signs.now in
    let now = λ (b : Bor GraphMap). b.now in
    let parts = c.deref-2.result.now in
    let short = subst (All (IsShortIn t)) (sym (ap (map now) c.deref.ensures.value ∙ c.in_ok-graphs.ensures)) (all_short t (λ (f : FullTree). f.graph) (parts_of c.args.known.now) c.requires.made) in
    subst (λ (s : Grammar). ArePartsIn s parts) (sym c.system-system.ensures)
    (all_in t c.structure.result.now (paths_of c.places.result.now) (map now c.deref.result.now) parts c.structure.ensures.short c.places.ensures.within short (ap (map placed_of) c.deref-2.ensures.value ∙ c.in_ok-parts.ensures))

pub returns-clause-forced : goal.returns-clause-forced
returns-clause-forced c =
    let t = c.args.signs.now in
    let now = λ (b : Bor GraphMap). b.now in
    let parts = c.deref-2.result.now in
    let ds = map now c.deref.result.now in
    let v = verdict_of c.in_ok-verdict.verdict in
    let short = subst (All (IsShortIn t)) (sym (ap (map now) c.deref.ensures.value ∙ c.in_ok-graphs.ensures)) (all_short t (λ (f : FullTree). f.graph) (parts_of c.args.known.now) c.requires.made) in
    let is : IsVerdict (system_of t.book.system) (Told (source_of parts)) v = subst (λ (s : Grammar). IsVerdict (system_of s) (Told (source_of parts)) v) c.system-system.ensures c.in_ok-verdict.ensures in
    let same = fulls_seen t (λ (f : FullTree). f.graph) ds (parts_of c.args.known.now) (ap (map now) c.deref.ensures.value ∙ c.in_ok-graphs.ensures) c.requires.made in
    subst (λ fs. IsForcedAt t c.args.place fs v) same
    (verdict_forced t c.structure.result.now (paths_of c.places.result.now) ds parts c.structure.ensures.short c.places.ensures.within short (ap (map placed_of) c.deref-2.ensures.value ∙ c.in_ok-parts.ensures)
    c.args.place c.structure.ensures.facts c.places.ensures.places v is)

pub returns-clause-named : goal.returns-clause-named
returns-clause-named c =
    let t = c.args.signs.now in
    let now = λ (b : Bor GraphMap). b.now in
    let parts = c.deref-2.result.now in
    let v = verdict_of c.in_ok-verdict.verdict in
    let types = c.types-types.result.now in
    let short = subst (All (IsShortIn t)) (sym (ap (map now) c.deref.ensures.value ∙ c.in_ok-graphs.ensures)) (all_short t (λ (f : FullTree). f.graph) (parts_of c.args.known.now) c.requires.made) in
    let is : IsVerdict (system_of t.book.system) (Told (source_of parts)) v = subst (λ (s : Grammar). IsVerdict (system_of s) (Told (source_of parts)) v) c.system-system.ensures c.in_ok-verdict.ensures in
    let grammar : IsGrammar t.book.system = subst IsGrammar c.system-system.ensures c.laws-2.ensures in
    let table : types ≡ t.book.system.types = c.types-types.ensures ∙ ap (λ (s : Grammar). s.types) c.system-system.ensures in
    let laws : HasTypeLaws t.book.system.types = subst HasTypeLaws table c.laws-3.ensures in
    let a = c.counts-counts.ensures.completed in
    let b = c.counts-counts.ensures.all in
    let r = c.counts-counts.ensures.rising.1 in
    let below : completed_count types ≤ count_of types = omega (arith, a, b, r) in
    let counts = subst (λ (x : TypeTable). completed_count x ≤ count_of x) table below in
    verdict_named t c.structure.result.now (paths_of c.places.result.now) (map now c.deref.result.now) parts c.structure.ensures.short c.places.ensures.within short (ap (map placed_of) c.deref-2.ensures.value ∙ c.in_ok-parts.ensures) grammar laws counts v is
