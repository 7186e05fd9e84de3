-- Lists beside one another, and places in them.
use Rattle.std.proofs.Common.{ℕ, zero, suc, ◌≡◌, ◌<◌, ◌≤◌, ◌+◌, Bool, true, false, cond, List, [], ◌∷◌, ◌++◌, length, filter, slice_index_or, Option, None, Some, refl, sym, ◌∙◌, ap, subst, arith}
use Rattle.std.specs.List.{AllZip, position_from}

-- what stands beside the member at a place
pub zip-at : {A B : Type 0} (R : A → B → Type 0) (xs : List A) (ys : List B) (k : ℕ) (d : A) (e : B) → AllZip R xs ys → k < length xs → R (slice_index_or xs k d) (slice_index_or ys k e)
zip-at R [] ys k d e z h = absurd (omega (arith, h))
zip-at R (x ∷ xs) [] k d e z h = absurd z
zip-at R (x ∷ xs) (y ∷ ys) zero d e z h = z.0
zip-at R (x ∷ xs) (y ∷ ys) (suc k) d e z h = zip-at R xs ys k d e z.1 (omega (arith, h))

pub zip-long : {A B : Type 0} (R : A → B → Type 0) (xs : List A) (ys : List B) → AllZip R xs ys → length ys ≡ length xs
zip-long R [] [] z = refl
zip-long R [] (y ∷ ys) z = absurd z
zip-long R (x ∷ xs) [] z = absurd z
zip-long R (x ∷ xs) (y ∷ ys) z = ap suc (zip-long R xs ys z.1)

-- a place that is found is in the list
pub position-in : {X : Type 0} (f : X → Bool) (n k : ℕ) (xs : List X) → position_from f n xs ≡ Some k → (n ≤ k) × (k < n + length xs)
position-in f n k [] e = cc
position-in f n k (x ∷ xs) e = by_cases (f x) (position-in f (n + 1) k xs) e
  where
    by_cases : (b : Bool) → (position_from f (n + 1) xs ≡ Some k → (n + 1 ≤ k) × (k < n + 1 + length xs)) → cond b (Some n) (position_from f (n + 1) xs) ≡ Some k → (n ≤ k) × (k < n + length (x ∷ xs))
    by_cases true later is = let found : Some n ≡ Some k = is in let same : n ≡ k = cc in (omega (arith, same), omega (arith, same))
    by_cases false later is = let r = later is in (omega (arith, r.0), omega (arith, r.1))

-- what stands beside at a place, past the end too
pub zip-or : {A : Type 0} (R : A → A → Type 0) (d : A) → R d d → (xs ys : List A) (k : ℕ) → AllZip R xs ys → R (slice_index_or xs k d) (slice_index_or ys k d)
zip-or R d r [] [] k z = r
zip-or R d r [] (y ∷ ys) k z = absurd z
zip-or R d r (x ∷ xs) [] k z = absurd z
zip-or R d r (x ∷ xs) (y ∷ ys) zero z = z.0
zip-or R d r (x ∷ xs) (y ∷ ys) (suc k) z = zip-or R d r xs ys k z.1
