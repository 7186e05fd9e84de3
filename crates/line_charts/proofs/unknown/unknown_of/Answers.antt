use Rattle.std.proofs.Common.{true, map, sym, ap, ◌∙◌, subst, rules}
use Rattle.std.proofs.lemmas.List.Sorted.{IsNonDecreasingBy-from_sort_by_key}
use Rattle.std.specs.List.Sorted.{IsNonDecreasingBy}
use Rattle.lexicon.specs.Words.{Has}
use Rattle.morph_analysis.specs.Lattices.{HaveSame}
use Rattle.morph_analysis.specs.LatticeViews.{lattice_of, step_of}
use Rattle.lexical_items.specs.Seen.{lattice_seen, step_seen}
use Rattle.lexical_items.specs.Views.{lexeme_seen}
use Rattle.line_charts.specs.Unknown.{AreUnknown}
use Rattle.line_charts.specs.declared.unknown.Reach.{Reach}
use Rattle.line_charts.specs.Inner.Reaches.{reach_seen, reaches_in, IsTold, AreOutside}
use Rattle.line_charts.proofs.Reaches.{valid_forward, told_known, known_told, outside_unknown, map_twice}
use Rattle.line_charts.proofs.UnknownSteps.{sorted_has, has_sorted}
use Rattle.line_charts.proofs.unknown.unknown_of.Goals as goal

pub untold_of-requires-clause-forward : goal.untold_of-requires-clause-forward
untold_of-requires-clause-forward g c =
    valid_forward (lattice_of c.args.lattice.now) c.in_ok-arrivals.arrivals (subst (λ ss. HaveSame c.in_ok-arrivals.arrivals (map step_of ss)) c.deref.ensures.value c.in_ok-arrivals.ensures) c.requires

pub untold_of-requires-clause-rising : goal.untold_of-requires-clause-rising
untold_of-requires-clause-rising g c =
    subst (IsNonDecreasingBy (λ (r : Reach). r.from)) (sym c.deref-2.ensures.value) (IsNonDecreasingBy-from_sort_by_key (λ (r : Reach). r.from) c.sort_by_key.new.self.items c.in_ok-sort_by_key.ensures.sorted (λ a r q k. search rules))

pub returns : goal.returns
returns g c =
    λ signs words most value are.
    let l = lattice_of c.args.lattice.now in
    let arr = c.in_ok-arrivals.arrivals in
    let same = subst (λ ss. HaveSame c.in_ok-arrivals.arrivals (map step_of ss)) c.deref.ensures.value c.in_ok-arrivals.ensures in
    let ones = map reach_seen c.deref-2.result.now in
    let longs = map reach_seen c.deref-3.result.now in
    let trees = map (λ t. (lexeme_seen value t).tree) c.args.trees.now in
    let longs_same = ap (map reach_seen) c.deref-3.ensures.value ∙ c.in_ok-longs.ensures in
    let out =
    outside_unknown signs words (lattice_seen l) most (IsTold arr ones longs)
    (told_known signs words l most arr same (lexeme_seen value) c.args.trees.now are ones longs
    (λ r h. sorted_has reach_seen c.in_ok-ones.ones.items c.sort_by_key.new.self.items c.deref-2.result.now (reaches_in true trees) r c.in_ok-sort_by_key.ensures.permutation c.deref-2.ensures.value c.in_ok-ones.ensures h)
    (λ r h. subst (λ l. Has r l) longs_same h))
    (known_told signs words l most arr same (lexeme_seen value) c.args.trees.now are ones longs
    (λ r h. has_sorted reach_seen c.in_ok-ones.ones.items c.sort_by_key.new.self.items c.deref-2.result.now (reaches_in true trees) r c.in_ok-sort_by_key.ensures.permutation c.deref-2.ensures.value c.in_ok-ones.ensures h)
    (λ r h. subst (λ l. Has r l) (sym longs_same) h))
    (subst (λ ss. AreOutside (IsTold arr ones longs) (map step_of ss) (map step_of c.in_ok-unknown.unknown.items)) c.deref-4.ensures.value c.in_ok-unknown.ensures) in
    subst (AreUnknown signs words (lattice_seen l) most (lattice_seen l).steps) (map_twice step_seen step_of c.in_ok-unknown.unknown.items) out
