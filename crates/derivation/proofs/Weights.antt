-- How far a walk over trees still goes, and how many words a phrase has.
use Rattle.std.proofs.lemmas.List.Sums.{sum_by-cons, sum_by_more, sum_by-take-le}
use Rattle.std.specs.List.{sum_by}
use Rattle.std.proofs.Common.{◌<◌, ◌≤◌, length, get_or, arith, ◌≡◌, ℕ, ◌+◌, List, [], ◌∷◌, map, sum, Vec, Global, refl, sym, ap, ◌∙◌}
use Rattle.derivation.specs.Trees.{Derivation, Daughters, lexical, phrase, no_more, first}
use Rattle.derivation.specs.Views.{derivation_of, in_order}
use Rattle.derivation.specs.Order.{word_count, word_counts}
use Rattle.derivation.specs.Counts.{words_of}
use Rattle.derivation.specs.declared.Tree.{Tree}
use Rattle.derivation.specs.declared.Tree.TheVariants.{Phrase}
use Rattle.std.specs.Arc.{arc_value}
use Rattle.std.specs.declared.sync.Arc.{Arc}
use Rattle.derivation.specs.declared.counts.Left.{Left, Nothing, Trees'}
use Rattle.derivation.proofs.Rows.{derivation_of-Phrase}

abbrev mutual
  pub weight : Derivation → ℕ
  weight (lexical entry rules words nodes) = 1
  weight (phrase rule daughters) = weights daughters + 2

  pub weights : Daughters → ℕ
  weights no_more = 0
  weights (first d ds) = weight d + weights ds

abbrev pub weight_of : List Tree → ℕ
weight_of trees = sum_by (λ t. weight (derivation_of t)) trees

abbrev pub weight_left : Left → ℕ
weight_left Nothing = 0
weight_left (Trees' trees p behind) = weight_of trees.now + weight_left behind + 1

-- a walk with nothing on its left side turns round once
abbrev pub turn : Left → ℕ
turn Nothing = 1
turn (Trees' trees p behind) = 0

sum-cons : (n : ℕ) (ns : List ℕ) → sum (n ∷ ns) ≡ n + sum ns
sum-cons n ns = sum_by-cons (λ x. x) n ns

weights-in_order : (ts : List Tree) → weights (in_order (map derivation_of ts)) ≡ weight_of ts
weights-in_order [] = refl
weights-in_order (t ∷ ts) = ap (λ n. weight (derivation_of t) + n) (weights-in_order ts) ∙ sym (sum_by-cons (λ u. weight (derivation_of u)) t ts)

pub words-in_order : (ts : List Tree) → sum (word_counts (in_order (map derivation_of ts))) ≡ words_of ts
words-in_order [] = refl
words-in_order (t ∷ ts) =
    sum-cons (word_count (derivation_of t)) (word_counts (in_order (map derivation_of ts)))
    ∙ ap (λ n. word_count (derivation_of t) + n) (words-in_order ts)
    ∙ sym (sum_by-cons (λ u. word_count (derivation_of u)) t ts)

pub weight-Phrase : (rule words : ℕ) (daughters : Arc (Vec Tree Global) Global) → weight (derivation_of (Phrase rule words daughters)) ≡ weight_of (arc_value daughters).items + 2
weight-Phrase rule words daughters = ap weight (derivation_of-Phrase rule words daughters) ∙ ap (λ n. n + 2) (weights-in_order (arc_value daughters).items)

pub word_count-Phrase : (rule words : ℕ) (daughters : Arc (Vec Tree Global) Global) → word_count (derivation_of (Phrase rule words daughters)) ≡ words_of (arc_value daughters).items
word_count-Phrase rule words daughters = ap word_count (derivation_of-Phrase rule words daughters) ∙ words-in_order (arc_value daughters).items

-- some trees that begin with a phrase, once it is opened
module _ (whole more items : List Tree) (tree : Tree) (rule words : ℕ) (daughters : Arc (Vec Tree Global) Global)
    (begins : whole ≡ tree ∷ more) (is : tree ≡ Phrase rule words daughters) (same : items ≡ (arc_value daughters).items) where
  pub words_of-opened : words_of whole ≡ words_of items + words_of more
  words_of-opened =
      ap words_of begins ∙ sum_by-cons (λ u. word_count (derivation_of u)) tree more
      ∙ ap (λ n. n + words_of more) (ap (λ t. word_count (derivation_of t)) is ∙ word_count-Phrase rule words daughters ∙ ap words_of (sym same))

  pub weight_of-opened : weight_of whole ≡ weight_of items + 2 + weight_of more
  weight_of-opened =
      ap weight_of begins ∙ sum_by-cons (λ u. weight (derivation_of u)) tree more
      ∙ ap (λ n. n + weight_of more) (ap (λ t. weight (derivation_of t)) is ∙ weight-Phrase rule words daughters ∙ ap (λ ts. weight_of ts + 2) (sym same))

-- one tree of several
pub weight_at : (ts : List Tree) (k : ℕ) (d : Tree) → k < length ts → weight (derivation_of (get_or ts k d)) ≤ weight_of ts
weight_at ts k d lt =
    omega (arith, sum_by_more (λ t. weight (derivation_of t)) ts k d lt, sum_by-take-le (λ t. weight (derivation_of t)) ts (k + 1))
