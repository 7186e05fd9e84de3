-- Sorted lists without two of one key rise.
use Rattle.std.specs.Prelude.{◌≡◌, ℕ, ◌<◌, ◌+◌, Bool, false, List, [], ◌∷◌, length, map, refl}
use Rattle.std.proofs.Common.{zero, suc, Bor, ◌∙◌, ap, subst, get_or, arith}
use Rattle.std.specs.Fn.{Mut, Called, ComparesAs}
use Rattle.std.specs.Cmp.{IsTotalOrder, IsStrictWeakOrder}
use Rattle.std.specs.List.Sorted.{IsSortedBy}
use Rattle.std.specs.Ordering.{is_lt, ordering_reverse}
use Rattle.std.specs.declared.cmp.Ordering.{Ordering}
use Rattle.std.specs.declared.cmp.Ordering.TheVariants.{Less, Equal, Greater}
use Rattle.std.proofs.lemmas.List.Sorted.{ranks_by, answers_always, sorted_far}
use Rattle.chart_model.specs.At.{At, at_below}
use Rattle.line_charts.specs.Inner.Stages.{AreApart}
use Rattle.line_charts.proofs.Lists.{at_or}

module _ {X K : Type 0} (R : K → K → Ordering) (total : IsTotalOrder R) (tie : (a b : K) → R a b ≡ Equal → a ≡ b) (key : X → K) where
  less : (a b : K) (o : Ordering) → R a b ≡ o → (a ≡ b → ⊥) → is_lt (R b a) ≡ false → R a b ≡ Less
  less a b Less e apart h = e
  less a b Equal e apart h = absurd (apart (tie a b e))
  less a b Greater e apart h = let back : R b a ≡ Less = total.antisymm b a ∙ ap ordering_reverse e in absurd (cc)

  pub rising_by : (xs : List X) → IsSortedBy (λ x y. is_lt (R (key x) (key y))) xs → AreApart key xs → (i j : ℕ) (x y : X) → i < j → At xs i x → At xs j y → R (key x) (key y) ≡ Less
  rising_by xs sorted apart i j x y low a b =
      let far = sorted_far (λ x y. is_lt (R (key x) (key y))) (ranks_by total key) xs sorted i j x (omega (arith, low)) (at_below b) in
      let ex : get_or xs i x ≡ x = at_or a x in
      let ey : get_or xs j x ≡ y = at_or b x in
      less (key x) (key y) (R (key x) (key y)) refl (λ e. let same = apart i j x y a b e in absurd (omega (arith, low, same)))
      (subst (λ z. is_lt (R (key z) (key x)) ≡ false) ey (subst (λ z. is_lt (R (key (get_or xs j x)) (key z)) ≡ false) ex far))

  -- what a sort by a key ensures
  pub sorted_by_key : {F : Type 0} {g : Mut F (Bor X × (Bor X × Unit {0})) Ordering} {f : F} (ts : List X) → ((lt : X → X → Bool) → IsStrictWeakOrder lt → ComparesAs g lt f → IsSortedBy lt ts) →
      ((f : F) (a : Bor X × (Bor X × Unit {0})) (r : Ordering) (q : F) → Called g f a r q → r ≡ R (key a.0.now) (key a.1.0.now)) → IsSortedBy (λ x y. is_lt (R (key x) (key y))) ts
  sorted_by_key {g = g} {f = f} ts sorted answers =
      sorted (λ x y. is_lt (R (key x) (key y))) (ranks_by total key) (answers_always g (λ a r. is_lt r ≡ is_lt (R (key a.0.now) (key a.1.0.now))) f (λ h a r q called. ap is_lt (answers h a r q called)))

module _ {A B : Type 0} (f : A → B) where
  get_mapped : (xs : List A) (i : ℕ) (d : B) (x : A) → i < length xs → get_or (map f xs) i d ≡ f (get_or xs i x)
  get_mapped [] i d x low = absurd (omega (arith, low))
  get_mapped (y ∷ ys) zero d x low = refl
  get_mapped (y ∷ ys) (suc n) d x low = get_mapped ys n d x (omega (arith, low))

  mapped_length : (xs : List A) → length (map f xs) ≡ length xs
  mapped_length [] = refl
  mapped_length (x ∷ xs) = omega (arith, mapped_length xs)

  -- the order of a list by a key is that of its keys
  pub sorted_mapped : (lt : B → B → Bool) (xs : List A) → IsSortedBy (λ x y. lt (f x) (f y)) xs → IsSortedBy lt (map f xs)
  sorted_mapped lt [] sorted k d low high = absurd (omega (arith, high))
  sorted_mapped lt (x ∷ xs) sorted k d low high =
      let e = mapped_length (x ∷ xs) in
      let small : k + 1 < length (x ∷ xs) = omega (arith, high, e) in
      let small2 : k < length (x ∷ xs) = omega (arith, high, e) in
      let a = get_mapped (x ∷ xs) (k + 1) d x small in
      let b = get_mapped (x ∷ xs) k d x small2 in
      rw (a, b) (sorted k x low small)
