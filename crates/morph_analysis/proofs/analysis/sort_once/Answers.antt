use Rattle.std.proofs.Common.{◌∙◌, sym, subst}
use Rattle.std.proofs.lemmas.List.Filters.{dedup_is}
use Rattle.std.proofs.lemmas.List.Kept.{IsStrictlySortedBy-dedup, Any-dedup, Contains-from_dedup}
use Rattle.std.proofs.lemmas.List.Sorted.{IsPermutation-sym}
use Rattle.lexicon.specs.Words.{Has}
use Rattle.morph_analysis.proofs.ArrivalLemmas.{has_contains, contains_has, has_moved, equal_when}
use Rattle.morph_analysis.proofs.analysis.sort_once.Goals as goal

pub returns-clause-sorted : goal.returns-clause-sorted
returns-clause-sorted g c = rw (dedup_is _ _ _ c.dedup.ensures.filtered) (IsStrictlySortedBy-dedup g.met.T.Ord.total g.met.T.Ord.matches_eq _ c.in_ok-sort.ensures.sorted)

pub returns-clause-kept : goal.returns-clause-kept
returns-clause-kept g c = λ x h.
    let is = dedup_is _ _ _ c.dedup.ensures.filtered in
    let a = Any-dedup g.met.T.Eq.laws c.sort.new.self.items x (has_contains c.sort.new.self.items x (has_moved c.args.items.now.items c.sort.new.self.items x c.in_ok-sort.ensures.permutation h)) in
    (a.1, subst (Has a.1) (sym is) (contains_has _ a.1 (a.0, a.2, a.3)), equal_when _ (sym (g.met.T.Ord.matches_eq x a.1) ∙ a.4))

pub returns-clause-only : goal.returns-clause-only
returns-clause-only g c = λ x h.
    let is = dedup_is _ _ _ c.dedup.ensures.filtered in
    has_moved c.sort.new.self.items c.args.items.now.items x (IsPermutation-sym _ _ c.in_ok-sort.ensures.permutation) (contains_has _ x (Contains-from_dedup _ _ x (has_contains _ x (subst (Has x) is h))))
