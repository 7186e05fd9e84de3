-- The order of derivations: which of two comes first.
use Rattle.std.specs.Prelude.{ℕ, List, [], ◌∷◌, length, sum, reverse}
use Rattle.std.specs.Option.{option_cmp}
use Rattle.std.specs.declared.cmp.Ordering.{Ordering}
use Rattle.std.specs.declared.cmp.Ordering.TheVariants.{Less, Equal, Greater}
use Rattle.std.specs.Ordering.{ordering_then, nat_cmp}
use Rattle.std.specs.Cmp.Lexicographic.{slice_cmp}
use Rattle.derivation.specs.Trees.{Derivation, Daughters, lexical, phrase, no_more, first}

-- How many words it spells.
abbrev mutual
  pub word_count : Derivation → ℕ
  word_count (lexical entry rules words nodes) = length words
  word_count (phrase rule daughters) = sum (word_counts daughters)

  pub word_counts : Daughters → List ℕ
  word_counts no_more = []
  word_counts (first d ds) = word_count d ∷ word_counts ds

-- The nodes of a lexical tree, from the outermost rule in to the entry.
abbrev pub inwards : ℕ → List ℕ → List ℕ
inwards entry rules = reverse (entry ∷ rules)

-- The outermost of these: the last rule, or the entry where there is none.
abbrev pub outermost : ℕ → List ℕ → ℕ
outermost entry [] = entry
outermost entry (rule ∷ rules) = outermost rule rules

-- By the first node, then by the second.
abbrev pub compare_pairs : ℕ × ℕ → ℕ × ℕ → Ordering
compare_pairs m n = ordering_then (nat_cmp m.0 n.0) (nat_cmp m.1 n.1)

-- Two trees compare by the place of their outermost node, and a lexical tree comes before a phrase of the same place.
-- Two lexical trees then compare inwards, node by node, then by their words, and last by their nodes, none first.
-- Two phrases of one rule then compare by the word counts of their daughters from the left, then by their daughters from the left.
-- A list comes before a longer one that it begins.
abbrev mutual
  pub compare_trees : Derivation → Derivation → Ordering
  compare_trees (lexical e rs ws ns) (lexical f qs vs ms) =
      ordering_then (nat_cmp (outermost e rs) (outermost f qs))
      (ordering_then (slice_cmp nat_cmp (inwards e rs) (inwards f qs))
      (ordering_then (slice_cmp (slice_cmp nat_cmp) ws vs) (option_cmp compare_pairs ns ms)))
  compare_trees (lexical e rs ws ns) (phrase q es) = ordering_then (nat_cmp (outermost e rs) q) Less
  compare_trees (phrase r ds) (lexical f qs vs ms) = ordering_then (nat_cmp r (outermost f qs)) Greater
  compare_trees (phrase r ds) (phrase q es) =
      ordering_then (nat_cmp r q)
      (ordering_then (slice_cmp nat_cmp (word_counts ds) (word_counts es)) (compare_daughters ds es))

  pub compare_daughters : Daughters → Daughters → Ordering
  compare_daughters no_more no_more = Equal
  compare_daughters no_more (first e es) = Less
  compare_daughters (first d ds) no_more = Greater
  compare_daughters (first d ds) (first e es) = ordering_then (compare_trees d e) (compare_daughters ds es)
