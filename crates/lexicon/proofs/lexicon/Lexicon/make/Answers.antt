use Rattle.std.proofs.Common.{rules, map, subst}
use Rattle.lexicon.proofs.GroupLemmas.{rising_kept}
use Rattle.lexicon.specs.Inner.Index.{entry_of}
use Rattle.std.specs.List.Sorted.{IsPermutation}
use Rattle.std.proofs.lemmas.List.Sorted.{IsPermutation-map, IsNonDecreasingBy-from_sort_by_key}
use Rattle.lexicon.proofs.lexicon.Lexicon.make.Goals as goal

pub returns : goal.returns
returns c = record {
  same = subst (λ l. IsPermutation l (map entry_of c.sort_by_key.new.self.items)) c.in_ok-sorted.ensures (IsPermutation-map entry_of c.in_ok-sorted.sorted.items c.sort_by_key.new.self.items c.in_ok-sort_by_key.ensures.permutation);
  rising = rising_kept c.sort_by_key.new.self.items (IsNonDecreasingBy-from_sort_by_key (λ e. e.number) c.sort_by_key.new.self.items c.in_ok-sort_by_key.ensures.sorted (λ a r q k. search rules));
}
