-- What stays of a list whose elements change places: its elements, each as often.
use Rattle.std.specs.Prelude.{◌≡◌, ℕ, ◌<◌, List, length, refl, IsPermutation}
use Rattle.std.proofs.Common.{◌∙◌, ap, sym, subst, get_or}
use Rattle.std.specs.List.{swap}
use Rattle.std.proofs.lemmas.Bool.{cases_eq}
use Rattle.std.proofs.lemmas.List.Edits.{swapped_from_swap}
use Rattle.std.proofs.lemmas.List.Sorted.{IsPermutation-keeps, IsPermutation-swap, length_permutation}
use Rattle.std.proofs.Common.{⊎_elim}
use Rattle.chart_model.specs.At.{At, at_below}
use Rattle.line_charts.specs.Inner.Stages.{AreApart}
use Rattle.line_charts.proofs.Lists.{at_or, or_at}

-- the place n before an exchange of i and j of what stands at m then
data Moved (i j m n : ℕ) : Type 0 where
  first : m ≡ i → n ≡ j → Moved i j m n
  second : m ≡ j → n ≡ i → Moved i j m n
  neither : (m ≡ i → ⊥) → (m ≡ j → ⊥) → n ≡ m → Moved i j m n

moved_from : (i j m : ℕ) → (n : ℕ) × Moved i j m n
moved_from i j m = ⊎_elim (λ e. (j, first e refl)) (λ a. ⊎_elim (λ f. (i, second f refl)) (λ b. (m, neither a b refl)) (cases_eq m j)) (cases_eq m i)

turned : (i j m n : ℕ) → Moved i j m n → Moved i j n m
turned i j m n (first a b) = second b a
turned i j m n (second a b) = first b a
turned i j m n (neither a b e) = neither (λ f. a (sym e ∙ f)) (λ f. b (sym e ∙ f)) (sym e)

one_place : (i j m n k : ℕ) → Moved i j m k → Moved i j n k → m ≡ n
one_place i j m n k (first a b) (first c d) = a ∙ sym c
one_place i j m n k (first a b) (second c d) = a ∙ sym d ∙ b ∙ sym c
one_place i j m n k (first a b) (neither c d e) = absurd (d (sym e ∙ b))
one_place i j m n k (second a b) (first c d) = a ∙ sym d ∙ b ∙ sym c
one_place i j m n k (second a b) (second c d) = a ∙ sym c
one_place i j m n k (second a b) (neither c d e) = absurd (c (sym e ∙ b))
one_place i j m n k (neither a b e) (first c d) = absurd (b (sym e ∙ d))
one_place i j m n k (neither a b e) (second c d) = absurd (a (sym e ∙ d))
one_place i j m n k (neither a b e) (neither c d f) = sym e ∙ f

module _ {X : Type 0} (l : List X) (i j : ℕ) (p : i < length l) (q : j < length l) where
  long : length (swap l i j) ≡ length l
  long = length_permutation l (swap l i j) (IsPermutation-swap l (swap l i j) i j p q refl)

  below : (m n : ℕ) → Moved i j m n → m < length l → n < length l
  below m n (first a b) h = subst (λ k. k < length l) (sym b) q
  below m n (second a b) h = subst (λ k. k < length l) (sym b) p
  below m n (neither a b e) h = subst (λ k. k < length l) (sym e) h

  same_read : (m n : ℕ) (d : X) → Moved i j m n → get_or (swap l i j) m d ≡ get_or l n d
  same_read m n d (first a b) = ap (λ k. get_or (swap l i j) k d) a ∙ (swapped_from_swap l (swap l i j) i j d p q refl).0 ∙ ap (λ k. get_or l k d) (sym b)
  same_read m n d (second a b) = ap (λ k. get_or (swap l i j) k d) a ∙ (swapped_from_swap l (swap l i j) i j d p q refl).1 ∙ ap (λ k. get_or l k d) (sym b)
  same_read m n d (neither a b e) = (swapped_from_swap l (swap l i j) i j d p q refl).2 m a b ∙ ap (λ k. get_or l k d) (sym e)

  before : (m n : ℕ) (x : X) → Moved i j m n → At (swap l i j) m x → At l n x
  before m n x w a =
      let low : n < length l = below m n w (subst (λ k. m < k) long (at_below a)) in
      subst (At l n) (sym (same_read m n x w) ∙ at_or a x) (or_at l n x low)

  after : (m n : ℕ) (x : X) → Moved i j m n → At l m x → At (swap l i j) n x
  after m n x w a =
      let low : n < length (swap l i j) = subst (λ k. n < k) (sym long) (below m n w (at_below a)) in
      subst (At (swap l i j) n) (same_read n m x (turned i j m n w) ∙ at_or a x) (or_at (swap l i j) n x low)

module _ {X K : Type 0} (key : X → K) where
  pub apart_moved : (xs ys : List X) → IsPermutation xs ys → AreApart key xs → AreApart key ys
  apart_moved xs ys moved apart =
      IsPermutation-keeps xs (AreApart key) apart (λ l i j p q h m n x y a b e.
      let u = moved_from i j m in
      let v = moved_from i j n in
      let same : u.0 ≡ v.0 = h u.0 v.0 x y (before l i j p q m u.0 x u.1 a) (before l i j p q n v.0 y v.1 b) e in
      one_place i j m n u.0 u.1 (subst (Moved i j n) (sym same) v.1)) ys moved

module _ {X : Type 0} where
  -- what stands in the list after moves stood there before, and stays there
  pub moved_back : (xs ys : List X) → IsPermutation xs ys → (m : ℕ) (x : X) → At ys m x → (n : ℕ) × At xs n x
  moved_back xs ys moved =
      IsPermutation-keeps xs (λ l. (m : ℕ) (x : X) → At l m x → (n : ℕ) × At xs n x) (λ m x a. (m, a))
      (λ l i j p q h m x a. let u = moved_from i j m in h u.0 x (before l i j p q m u.0 x u.1 a)) ys moved

  pub moved_on : (xs ys : List X) → IsPermutation xs ys → (m : ℕ) (x : X) → At xs m x → (n : ℕ) × At ys n x
  moved_on xs ys moved =
      IsPermutation-keeps xs (λ l. (m : ℕ) (x : X) → At xs m x → (n : ℕ) × At l n x) (λ m x a. (m, a))
      (λ l i j p q h m x a. let r = h m x a in let u = moved_from i j r.0 in (u.0, after l i j p q r.0 u.0 x u.1 r.1)) ys moved
