-- How the order of trees reads off the trees of the program.
use Rattle.std.proofs.Common.{suc, ◌≡◌, ℕ, ◌-◌, List, [], ◌∷◌, ◌++◌, length, map, drop, min, Vec, Global, refl, sym, ap, ◌∙◌, arith}
use Rattle.std.proofs.lemmas.Bool.Decides.{nat_tests}
use Rattle.std.proofs.lemmas.List.{reverse-append}
use Rattle.std.specs.List.{slice_get}
use Rattle.std.specs.Option.{unwrap_or}
use Rattle.std.specs.declared.cmp.Ordering.{Ordering}
use Rattle.std.specs.declared.cmp.Ordering.TheVariants.{Less, Equal, Greater}
use Rattle.std.specs.Ordering.{ordering_then, nat_cmp, on}
use Rattle.std.specs.Cmp.Lexicographic.{slice_cmp}
use Rattle.derivation.specs.Trees.{phrase}
use Rattle.derivation.specs.Views.{derivation_of, in_order}
use Rattle.derivation.specs.Order.{compare_trees, compare_daughters, word_counts, inwards, outermost}
use Rattle.derivation.specs.Counts.{word_count_of}
use Rattle.derivation.specs.declared.Tree.{Tree}
use Rattle.derivation.specs.declared.Tree.TheVariants.{Phrase}
use Rattle.std.specs.Arc.{arc_value}
use Rattle.std.specs.declared.sync.Arc.{Arc}
use Rattle.derivation.proofs.Rows.{derivation_of-Phrase}

pub outermost_is_last : (entry : ℕ) (rules : List ℕ) → unwrap_or (slice_get rules (length rules - 1)) entry ≡ outermost entry rules
outermost_is_last entry [] = refl
outermost_is_last entry (rule ∷ rules) = let e : length (rule ∷ rules) - 1 ≡ length rules = omega arith in rw e (last_of entry rule rules)
  where
    last_of : (entry rule : ℕ) (rules : List ℕ) → unwrap_or (slice_get (rule ∷ rules) (length rules)) entry ≡ outermost rule rules
    last_of entry rule [] = refl
    last_of entry rule (outer ∷ rules) = last_of entry outer rules

-- the first node inwards is the outermost
inwards-front : (entry : ℕ) (rules : List ℕ) → (rest : List ℕ) × (inwards entry rules ≡ outermost entry rules ∷ rest)
inwards-front entry [] = ([], refl)
inwards-front entry (rule ∷ rules) =
    let inner = inwards-front rule rules in
    (inner.0 ++ entry ∷ [], reverse-append (entry ∷ []) (rule ∷ rules) ∙ ap (λ ns. ns ++ entry ∷ []) inner.1)

then_again : (o p q : Ordering) → ordering_then (ordering_then o p) q ≡ ordering_then o (ordering_then (ordering_then o p) q)
then_again Less p q = refl
then_again Equal p q = refl
then_again Greater p q = refl

then_assoc : (o p q : Ordering) → ordering_then (ordering_then o p) q ≡ ordering_then o (ordering_then p q)
then_assoc Less p q = refl
then_assoc Equal p q = refl
then_assoc Greater p q = refl

-- to compare all nodes inwards begins with the outermost
pub outermost_first : (e : ℕ) (rs : List ℕ) (f : ℕ) (qs : List ℕ) (o p : Ordering) →
    ordering_then (ordering_then (slice_cmp nat_cmp (inwards e rs) (inwards f qs)) o) p
    ≡ ordering_then (nat_cmp (outermost e rs) (outermost f qs)) (ordering_then (slice_cmp nat_cmp (inwards e rs) (inwards f qs)) (ordering_then o p))
outermost_first e rs f qs o p =
    let a = inwards-front e rs in
    let b = inwards-front f qs in
    then_assoc (slice_cmp nat_cmp (inwards e rs) (inwards f qs)) o p
    ∙ rw (a.1, b.1) (then_again (nat_cmp (outermost e rs) (outermost f qs)) (slice_cmp nat_cmp a.0 b.0) (ordering_then o p))

-- by the word counts, and then in turn
abbrev pub by_daughters : List Tree → List Tree → Ordering
by_daughters xs ys = ordering_then (slice_cmp (on word_count_of nat_cmp) xs ys) (slice_cmp (on derivation_of compare_trees) xs ys)

compare_daughters-in_order : (xs ys : List Tree) →
    compare_daughters (in_order (map derivation_of xs)) (in_order (map derivation_of ys)) ≡ slice_cmp (on derivation_of compare_trees) xs ys
compare_daughters-in_order [] [] = refl
compare_daughters-in_order [] (y ∷ ys) = refl
compare_daughters-in_order (x ∷ xs) [] = refl
compare_daughters-in_order (x ∷ xs) (y ∷ ys) = ap (ordering_then (compare_trees (derivation_of x) (derivation_of y))) (compare_daughters-in_order xs ys)

word_counts-in_order : (xs ys : List Tree) →
    slice_cmp nat_cmp (word_counts (in_order (map derivation_of xs))) (word_counts (in_order (map derivation_of ys))) ≡ slice_cmp (on word_count_of nat_cmp) xs ys
word_counts-in_order [] [] = refl
word_counts-in_order [] (y ∷ ys) = refl
word_counts-in_order (x ∷ xs) [] = refl
word_counts-in_order (x ∷ xs) (y ∷ ys) = ap (ordering_then (nat_cmp (word_count_of x) (word_count_of y))) (word_counts-in_order xs ys)

compare_trees-Phrase : (r m : ℕ) (ds : Arc (Vec Tree Global) Global) (q n : ℕ) (es : Arc (Vec Tree Global) Global) →
    compare_trees (derivation_of (Phrase r m ds)) (derivation_of (Phrase q n es)) ≡ ordering_then (nat_cmp r q) (by_daughters (arc_value ds).items (arc_value es).items)
compare_trees-Phrase r m ds q n es =
    let ts = (arc_value ds).items in
    let us = (arc_value es).items in
    let xs = in_order (map derivation_of ts) in
    let ys = in_order (map derivation_of us) in
    ap (λ d. compare_trees d (derivation_of (Phrase q n es))) (derivation_of-Phrase r m ds)
    ∙ ap (compare_trees (phrase r xs)) (derivation_of-Phrase q n es)
    ∙ ap (ordering_then (nat_cmp r q)) (
    ap (λ o. ordering_then o (compare_daughters xs ys)) (word_counts-in_order ts us)
    ∙ ap (ordering_then (slice_cmp (on word_count_of nat_cmp) ts us)) (compare_daughters-in_order ts us))

-- two phrases of one rule
pub compare_phrases : (tree other : Tree) (r m q n : ℕ) (ds es : Arc (Vec Tree Global) Global) (xs ys : List Tree) (o : Ordering) →
    tree ≡ Phrase r m ds → other ≡ Phrase q n es → xs ≡ (arc_value ds).items → ys ≡ (arc_value es).items → Equal ≡ nat_cmp r q → o ≡ by_daughters xs ys →
    o ≡ compare_trees (derivation_of tree) (derivation_of other)
compare_phrases tree other r m q n ds es xs ys o is other_is same other_same tie e =
    e ∙ ap (λ zs. by_daughters zs ys) same ∙ ap (by_daughters (arc_value ds).items) other_same
    ∙ ap (λ p. ordering_then p (by_daughters (arc_value ds).items (arc_value es).items)) tie ∙ sym (compare_trees-Phrase r m ds q n es)
    ∙ ap (λ t. compare_trees (derivation_of t) (derivation_of (Phrase q n es))) (sym is)
    ∙ ap (λ t. compare_trees (derivation_of tree) (derivation_of t)) (sym other_is)

nat_cmp-suc : (m n : ℕ) → nat_cmp m n ≡ nat_cmp (suc m) (suc n)
nat_cmp-suc m n = grind (arith, nat_tests)

nat_cmp-less : (n : ℕ) → Less ≡ nat_cmp 0 (suc n)
nat_cmp-less n = grind (arith, nat_tests)

nat_cmp-greater : (n : ℕ) → Greater ≡ nat_cmp (suc n) 0
nat_cmp-greater n = grind (arith, nat_tests)

-- where one list has ended, the shorter comes first
module _ {A : Type 0} (R : A → A → Ordering) where
  at_end : (xs ys : List A) → slice_cmp R (drop (min (length xs) (length ys)) xs) (drop (min (length xs) (length ys)) ys) ≡ nat_cmp (length xs) (length ys)
  at_end [] [] = refl
  at_end [] (y ∷ ys) = let e : min 0 (length (y ∷ ys)) ≡ 0 = omega arith in rw e (nat_cmp-less (length ys))
  at_end (x ∷ xs) [] = let e : min (length (x ∷ xs)) 0 ≡ 0 = omega arith in rw e (nat_cmp-greater (length xs))
  at_end (x ∷ xs) (y ∷ ys) =
      let e : min (length (x ∷ xs)) (length (y ∷ ys)) ≡ suc (min (length xs) (length ys)) = omega arith in
      rw e (at_end xs ys ∙ nat_cmp-suc (length xs) (length ys))

  pub slice_cmp-end : (xs ys : List A) (n : ℕ) → n ≡ min (length xs) (length ys) → slice_cmp R (drop n xs) (drop n ys) ≡ nat_cmp (length xs) (length ys)
  slice_cmp-end xs ys n e = ap (λ k. slice_cmp R (drop k xs) (drop k ys)) e ∙ at_end xs ys
