-- A list without repeats is no longer than a list that has all that it has.
use Rattle.std.specs.Prelude.{◌≡◌, ℕ, ◌+◌, ◌≤◌, List, [], ◌∷◌, length, refl}
use Rattle.std.proofs.Common.{zero, suc, ap, arith}
use Rattle.chart_model.specs.At.{At, here, there, at_one}
use Rattle.chart_model.proofs.Gather.{Once}

module _ {A : Type 0} where
  -- the list without what stands at a place
  abbrev without : List A → ℕ → List A
  without [] j = []
  without (y ∷ ys) zero = ys
  without (y ∷ ys) (suc j) = y ∷ without ys j

  without_length : {ys : List A} {j : ℕ} {y : A} → At ys j y → length ys ≡ length (without ys j) + 1
  without_length (here) = omega arith
  without_length (there a) = let e = without_length a in omega (arith, e)

  still_at : {x : A} (j : ℕ) {ys : List A} {i : ℕ} → At ys i x → (i ≡ j → ⊥) → (n : ℕ) × At (without ys j) n x
  still_at zero (here) other = absurd (other refl)
  still_at (suc j) (here) other = (0, here)
  still_at zero (there {i = i} a) other = (i, a)
  still_at (suc j) (there {i = i} a) other = let r = still_at j a (λ e. other (ap suc e)) in (suc r.0, there r.1)

  pub once_tail : (x : A) (xs : List A) → Once (x ∷ xs) → Once xs
  once_tail x xs once i j y a b = let e : suc i ≡ suc j = once (suc i) (suc j) y (there a) (there b) in omega (arith, e)

  pub once_cons : (x : A) (xs : List A) → Once xs → ((i : ℕ) → At xs i x → ⊥) → Once (x ∷ xs)
  once_cons x xs once never zero zero y a b = refl
  once_cons x xs once never zero (suc j) y (here) (there b) = absurd (never j b)
  once_cons x xs once never (suc i) zero y (there a) (here) = absurd (never i a)
  once_cons x xs once never (suc i) (suc j) y (there a) (there b) = ap suc (once i j y a b)

  apart_from : (x y : A) (xs ys : List A) (i n j : ℕ) → Once (x ∷ xs) → At xs i y → At ys n y → At ys j x → n ≡ j → ⊥
  apart_from x y xs ys i n j once a b c e =
      let same : y ≡ x = at_one (rw e at b) c in
      let z : zero ≡ suc i = once zero (suc i) x here (there (rw same at a)) in
      omega (arith, z)

  pub fewer : (xs ys : List A) → Once xs → ((i : ℕ) (x : A) → At xs i x → (j : ℕ) × At ys j x) → length xs ≤ length ys
  fewer [] ys once all = omega arith
  fewer (x ∷ xs) ys once all =
      let f = all 0 x here in
      let l = fewer xs (without ys f.0) (once_tail x xs once) (λ i y a. let g = all (suc i) y (there a) in still_at f.0 g.1 (apart_from x y xs ys i g.0 f.0 once a g.1 f.1)) in
      omega (arith, without_length f.1, l)
