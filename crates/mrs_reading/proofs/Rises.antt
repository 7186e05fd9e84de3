-- Two lists with rising names that have the same elements are one list.
use Rattle.std.proofs.Common.{ℕ, suc, ◌≡◌, ◌+◌, ◌⊎◌, inl, inr, List, [], ◌∷◌, map, refl, sym, ap, subst, arith, ◌∙◌}
use Rattle.std.specs.Prelude.{Contains, slice_index_or}
use Rattle.std.specs.declared.cmp.Ordering.TheVariants.{Less, Greater}
use Rattle.std.specs.Cmp.Lexicographic.{slice_cmp, nat_list_cmp_total}
use Rattle.std.specs.Ordering.{nat_cmp, ordering_reverse}
use Rattle.mrs_model.specs.Valid.{Rise}
use Rattle.mrs_reading.proofs.Predicated.{nothing_in}
use Rattle.mrs_reading.proofs.Moves.{first_or_other, is_first, is_other}

abbrev Before : List ℕ → List ℕ → Type 0
Before a b = slice_cmp nat_cmp a b ≡ Less

not_both : (a b : List ℕ) → Before a b → Before b a → ⊥
not_both a b h k = let e = nat_list_cmp_total.antisymm a b in let f : slice_cmp nat_cmp a b ≡ Greater = e ∙ ap ordering_reverse k in cc

rise_rest : (n : List ℕ) (ns : List (List ℕ)) → Rise (n ∷ ns) → Rise ns
rise_rest n ns r k l =
    let e : suc k + 1 ≡ suc (k + 1) = omega arith in
    subst (λ (j : ℕ). slice_cmp nat_cmp (slice_index_or (n ∷ ns) (suc k) []) (slice_index_or (n ∷ ns) j []) ≡ Less) e (r (suc k) (omega (arith, l)))

module _ {X : Type 0} (name : X → List ℕ) where
  after : (x : X) (xs : List X) → Rise (map name (x ∷ xs)) → (y : X) → Contains xs y → Before (name x) (name y)
  after x [] r y h = absurd (nothing_in y h)
  after x (z ∷ xs) r y h = elim (first_or_other z xs y h) [
    | inl e ↦ subst (λ (w : X). Before (name x) (name w)) e (r 0 (omega arith))
    | inr k ↦ nat_list_cmp_total.trans (name x) (name z) (name y) (r 0 (omega arith)) (after z xs (rise_rest (name x) (map name (z ∷ xs)) r) y k)
  ]

  later : (x y : X) (ys : List X) → Contains (y ∷ ys) x → Before (name y) (name x) → Contains ys x
  later x y ys h l = elim (first_or_other y ys x h) [ inl e ↦ absurd (let m = subst (λ (z : X). Before (name y) (name z)) (sym e) l in not_both (name y) (name y) m m) | inr k ↦ k ]

  pub rising_one : (xs ys : List X) → Rise (map name xs) → Rise (map name ys) → ((x : X) → Contains xs x → Contains ys x) → ((x : X) → Contains ys x → Contains xs x) → xs ≡ ys
  rising_one [] [] r s to back = refl
  rising_one [] (y ∷ ys) r s to back = absurd (nothing_in y (back y (is_first y ys)))
  rising_one (x ∷ xs) [] r s to back = absurd (nothing_in x (to x (is_first x xs)))
  rising_one (x ∷ xs) (y ∷ ys) r s to back = by_first (first_or_other y ys x (to x (is_first x xs))) (first_or_other x xs y (back y (is_first y ys))) (rising_one xs ys (rise_rest (name x) (map name xs) r) (rise_rest (name y) (map name ys) s))
    where
      same : x ≡ y → (((z : X) → Contains xs z → Contains ys z) → ((z : X) → Contains ys z → Contains xs z) → xs ≡ ys) → x ∷ xs ≡ y ∷ ys
      same e k =
          let f = k (λ z h. later z y ys (to z (is_other x xs z h)) (subst (λ (w : X). Before (name w) (name z)) e (after x xs r z h)))
          (λ z h. later z x xs (back z (is_other y ys z h)) (subst (λ (w : X). Before (name w) (name z)) (sym e) (after y ys s z h))) in
          λ i. e i ∷ f i

      by_first : (y ≡ x) ⊎ Contains ys x → (x ≡ y) ⊎ Contains xs y → (((z : X) → Contains xs z → Contains ys z) → ((z : X) → Contains ys z → Contains xs z) → xs ≡ ys) → x ∷ xs ≡ y ∷ ys
      by_first (inl e) b k = same (sym e) k
      by_first (inr h) (inl e) k = same e k
      by_first (inr h) (inr m) k = absurd (not_both (name y) (name x) (after y ys s x h) (after x xs r y m))
