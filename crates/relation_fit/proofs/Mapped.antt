-- Lists that are read through a function, one element at a time.
use Rattle.std.specs.Prelude.{ℕ, ◌≡◌, ◌+◌, ◌<◌, ◌==◌, not, Bool, true, false, Some, List, [], ◌∷◌, ◌++◌, length, map, slice_get, Contains, All}
use Rattle.std.proofs.Common.{refl, sym, ◌∙◌, ap, subst, arith, zero, suc, take, get_or, eq-eqb}
use Rattle.std.specs.List.{AllZip}

-- what stands at a place
pub mapped_has : {A B : Type 0} (f : A → B) (xs : List A) (k : ℕ) (x : A) → k < length xs → x ≡ get_or xs k x → Contains (map f xs) (f x)
mapped_has {A} f xs k x lt e = (k, inside xs k lt, read xs k lt e)
  where
    inside : (ys : List A) (j : ℕ) → j < length ys → j < length (map f ys)
    inside [] j l = absurd (omega (arith, l))
    inside (y ∷ ys) zero l = omega arith
    inside (y ∷ ys) (suc j) l = let z = inside ys j (omega (arith, l)) in omega (arith, z)

    read : (ys : List A) (j : ℕ) → j < length ys → x ≡ get_or ys j x → get_or (map f ys) j (f x) ≡ f x
    read [] j l q = absurd (omega (arith, l))
    read (y ∷ ys) zero l q = ap f (sym q)
    read (y ∷ ys) (suc j) l q = read ys j (omega (arith, l)) q

pub mapped_got : {A B : Type 0} (f : A → B) (xs : List A) (k : ℕ) (x : A) → k < length xs → x ≡ get_or xs k x → slice_get (map f xs) k ≡ Some (f x)
mapped_got f [] k x lt e = absurd (omega (arith, lt))
mapped_got f (y ∷ xs) zero x lt e = ap (λ z. Some (f z)) (sym e)
mapped_got f (y ∷ xs) (suc k) x lt e = mapped_got f xs k x (omega (arith, lt)) e

-- what was seen so far, with the next
taken_next : {A B : Type 0} (f : A → B) (xs : List A) (k : ℕ) (x : A) → k < length xs → x ≡ get_or xs k x → map f (take (k + 1) xs) ≡ map f (take k xs) ++ f x ∷ []
taken_next f [] k x lt e = absurd (omega (arith, lt))
taken_next f (y ∷ xs) zero x lt e = ap (λ z. f z ∷ []) (sym e)
taken_next f (y ∷ xs) (suc k) x lt e =
    let q : suc k + 1 ≡ suc (k + 1) = omega arith in
    ap (λ (j : ℕ). map f (take j (y ∷ xs))) q ∙ ap (λ l. f y ∷ l) (taken_next f xs k x (omega (arith, lt)) e)

zip_snoc : {A B : Type 0} (R : A → B → Type 0) (xs : List A) (ys : List B) (x : A) (y : B) → AllZip R xs ys → R x y → AllZip R (xs ++ x ∷ []) (ys ++ y ∷ [])
zip_snoc R [] [] x y z r = (r, tt)
zip_snoc R [] (b ∷ ys) x y z r = absurd z
zip_snoc R (a ∷ xs) [] x y z r = absurd z
zip_snoc R (a ∷ xs) (b ∷ ys) x y z r = (z.0, zip_snoc R xs ys x y z.1 r)

-- beside one another, with the next of both
pub zip_next : {A B C : Type 0} (f : A → B) (R : B → C → Type 0) (xs : List A) (k : ℕ) (x : A) (old new : List C) (y : C) → k < length xs → x ≡ get_or xs k x → new ≡ old ++ y ∷ [] → AllZip R (map f (take k xs)) old → R (f x) y →
    AllZip R (map f (take (k + 1) xs)) new
zip_next f R xs k x old new y lt e n z r =
    subst (λ zs. AllZip R zs new) (sym (taken_next f xs k x lt e)) (subst (AllZip R (map f (take k xs) ++ f x ∷ [])) (sym n) (zip_snoc R (map f (take k xs)) old (f x) y z r))

-- a list that isn't empty
pub filled : {A : Type 0} (xs : List A) (n : ℕ) → (n == 0) ≡ false → n ≡ length xs → 0 < length xs
filled [] n f e = absurd (let z : true ≡ false = sym (eq-eqb n 0 e) ∙ f in cc)
filled (x ∷ xs) n f e = omega arith

pub not_false : (b : Bool) → not b ≡ false → b ≡ true
not_false true e = refl
not_false false e = absurd (let z : true ≡ false = e in cc)
