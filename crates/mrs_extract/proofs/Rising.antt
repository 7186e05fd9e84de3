-- Two lists with rising names that have the same elements are one list.
use Rattle.std.proofs.Common.{ℕ, zero, suc, ◌≡◌, ◌+◌, ◌<◌, ◌⊎◌, inl, inr, List, [], ◌∷◌, length, map, refl, sym, ap, subst, arith, ◌∙◌}
use Rattle.std.specs.Prelude.{Contains, slice_index_or}
use Rattle.std.specs.declared.cmp.Ordering.TheVariants.{Less, Greater}
use Rattle.std.specs.Cmp.Lexicographic.{slice_cmp}
use Rattle.std.specs.Ordering.{nat_cmp, ordering_reverse}
use Rattle.std.proofs.lemmas.Cmp.{nat_list_cmp_total}
use Rattle.fs_model.specs.Claims.{Has, here, there}
use Rattle.mrs_model.specs.Valid.{Rise}

abbrev Before : List ℕ → List ℕ → Type 0
Before a b = slice_cmp nat_cmp a b ≡ Less

not_both : (a b : List ℕ) → Before a b → Before b a → ⊥
not_both a b h k = let e = nat_list_cmp_total.antisymm a b in let f : slice_cmp nat_cmp a b ≡ Greater = e ∙ ap ordering_reverse k in cc

rise_rest : (n : List ℕ) (ns : List (List ℕ)) → Rise (n ∷ ns) → Rise ns
rise_rest n ns r k l =
    let e : suc k + 1 ≡ suc (k + 1) = omega arith in
    subst (λ (j : ℕ). slice_cmp nat_cmp (slice_index_or (n ∷ ns) (suc k) []) (slice_index_or (n ∷ ns) j []) ≡ Less) e (r (suc k) (omega (arith, l)))

first_or : {X : Type 0} {x y : X} {ys : List X} → Has x (y ∷ ys) → (x ≡ y) ⊎ Has x ys
first_or here = inl refl
first_or (there h) = inr h

pub has_of : {X : Type 0} (xs : List X) (x : X) → Contains xs x → Has x xs
has_of [] x c = absurd (let l = c.1 in omega (arith, l))
has_of (y ∷ ys) x c = at c.0 c.1 c.2 (λ k l e. has_of ys x (k, l, e))
  where
    at : (k : ℕ) → k < length (y ∷ ys) → slice_index_or (y ∷ ys) k x ≡ x → ((j : ℕ) → j < length ys → slice_index_or ys j x ≡ x → Has x ys) → Has x (y ∷ ys)
    at zero l e go = subst (λ z. Has z (y ∷ ys)) e here
    at (suc k) l e go = there (go k (omega (arith, l)) e)

pub contains_of : {X : Type 0} (xs : List X) (x : X) → Has x xs → Contains xs x
contains_of [] x h = elim h [ ]
contains_of (_ ∷ ys) x here = (0, omega arith, refl)
contains_of (y ∷ ys) x (there h) = let c = contains_of ys x h in let l = c.1 in (suc c.0, omega (arith, l), c.2)

module _ {X : Type 0} (name : X → List ℕ) where
  after : (x : X) (xs : List X) → Rise (map name (x ∷ xs)) → (y : X) → Has y xs → Before (name x) (name y)
  after x [] r y h = elim h [ ]
  after x (_ ∷ xs) r y here = r 0 (omega arith)
  after x (z ∷ xs) r y (there h) = nat_list_cmp_total.trans (name x) (name z) (name y) (r 0 (omega arith)) (after z xs (rise_rest (name x) (map name (z ∷ xs)) r) y h)

  later : (x y : X) (ys : List X) → Has x (y ∷ ys) → Before (name y) (name x) → Has x ys
  later x y ys h l = elim (first_or h) [ inl e ↦ absurd (let m = subst (λ z. Before (name y) (name z)) e l in not_both (name y) (name y) m m) | inr k ↦ k ]

  pub rising_one : (xs ys : List X) → Rise (map name xs) → Rise (map name ys) → ((x : X) → Has x xs → Has x ys) → ((x : X) → Has x ys → Has x xs) → xs ≡ ys
  rising_one [] [] r s to back = refl
  rising_one [] (y ∷ ys) r s to back = elim (back y here) [ ]
  rising_one (x ∷ xs) [] r s to back = elim (to x here) [ ]
  rising_one (x ∷ xs) (y ∷ ys) r s to back = by_first (first_or (to x here)) (first_or (back y here)) (rising_one xs ys (rise_rest (name x) (map name xs) r) (rise_rest (name y) (map name ys) s))
    where
      same : x ≡ y → (((z : X) → Has z xs → Has z ys) → ((z : X) → Has z ys → Has z xs) → xs ≡ ys) → x ∷ xs ≡ y ∷ ys
      same e k =
          let f = k (λ z h. later z y ys (to z (there h)) (subst (λ w. Before (name w) (name z)) e (after x xs r z h))) (λ z h. later z x xs (back z (there h)) (subst (λ w. Before (name w) (name z)) (sym e) (after y ys s z h))) in
          λ i. e i ∷ f i

      by_first : (x ≡ y) ⊎ Has x ys → (y ≡ x) ⊎ Has y xs → (((z : X) → Has z xs → Has z ys) → ((z : X) → Has z ys → Has z xs) → xs ≡ ys) → x ∷ xs ≡ y ∷ ys
      by_first (inl e) b k = same e k
      by_first (inr h) (inl e) k = same (sym e) k
      by_first (inr h) (inr m) k = absurd (not_both (name y) (name x) (after y ys s x h) (after x xs r y m))
