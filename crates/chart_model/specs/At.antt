-- Place i of a list holds x.
use Rattle.std.specs.Prelude.{◌≡◌, ℕ, ◌<◌, Some, List, [], ◌∷◌, ◌++◌, length, slice_get, refl}
use Rattle.std.proofs.Common.{zero, suc, ap, subst, arith}

pub data At {A : Type 0} : List A → ℕ → A → Type 0 where
  here : {x : A} {xs : List A} → At (x ∷ xs) zero x
  there : {x y : A} {xs : List A} {i : ℕ} → At xs i x → At (y ∷ xs) (suc i) x

module _ {A : Type 0} where
  pub from_get : (xs : List A) (i : ℕ) (x : A) → slice_get xs i ≡ Some x → At xs i x
  from_get [] i x h = absurd (cc)
  from_get (y ∷ xs) zero x h = let e : y ≡ x = cc in subst (At (y ∷ xs) zero) e here
  from_get (y ∷ xs) (suc i) x h = there (from_get xs i x h)

  pub to_get : {xs : List A} {i : ℕ} {x : A} → At xs i x → slice_get xs i ≡ Some x
  to_get here = refl
  to_get (there a) = to_get a

  pub at_below : {xs : List A} {i : ℕ} {x : A} → At xs i x → i < length xs
  at_below here = omega arith
  at_below (there a) = omega (arith, at_below a)

  pub at_one : {xs : List A} {i : ℕ} {x y : A} → At xs i x → At xs i y → x ≡ y
  at_one a b = let p = to_get a in let q = to_get b in cc

  pub at_append : {xs : List A} {i : ℕ} {x : A} (ys : List A) → At xs i x → At (xs ++ ys) i x
  at_append ys here = here
  at_append ys (there a) = there (at_append ys a)

  pub at_last : (xs : List A) (x : A) → At (xs ++ x ∷ []) (length xs) x
  at_last [] x = here
  at_last (y ∷ xs) x = there (at_last xs x)

  pub data Snoc (xs : List A) (x : A) (i : ℕ) (y : A) : Type 0 where
    old : At xs i y → Snoc xs x i y
    new : i ≡ length xs → x ≡ y → Snoc xs x i y

  snoc_there : {xs : List A} {x : A} {i : ℕ} {y : A} (z : A) → Snoc xs x i y → Snoc (z ∷ xs) x (suc i) y
  snoc_there z (old a) = old (there a)
  snoc_there z (new p q) = new (ap suc p) q

  pub at_snoc : (xs : List A) (x : A) (i : ℕ) (y : A) → At (xs ++ x ∷ []) i y → Snoc xs x i y
  at_snoc [] x i y (here) = new refl refl
  at_snoc [] x i y (there a) = elim a [ ]
  at_snoc (z ∷ xs) x i y (here) = old here
  at_snoc (z ∷ xs) x i y (there {i = j} a) = snoc_there z (at_snoc xs x j y a)

  pub at_found : (xs : List A) (i : ℕ) → i < length xs → (x : A) × At xs i x
  at_found [] i h = absurd (omega arith)
  at_found (x ∷ xs) zero h = (x, here)
  at_found (x ∷ xs) (suc i) h = let r = at_found xs i (omega arith) in (r.0, there r.1)
