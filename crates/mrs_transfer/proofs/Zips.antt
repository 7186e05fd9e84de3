-- Two lists whose elements stand in a relation, place by place.
use Rattle.std.proofs.Common.{ℕ, zero, suc, ◌≡◌, ◌<◌, List, [], ◌∷◌, length, get_or, refl, ap, arith}
use Rattle.std.specs.List.{AllZip}

module _ {A B : Type 0} (R : A → B → Type 0) where
  pub zip_length : (xs : List A) (ys : List B) → AllZip R xs ys → length xs ≡ length ys
  zip_length [] [] z = refl
  zip_length [] (y ∷ ys) z = absurd z
  zip_length (x ∷ xs) [] z = absurd z
  zip_length (x ∷ xs) (y ∷ ys) z = ap suc (zip_length xs ys z.1)

  pub zip_at : (xs : List A) (ys : List B) (i : ℕ) (d : A) (e : B) → AllZip R xs ys → i < length xs → R (get_or xs i d) (get_or ys i e)
  zip_at [] [] i d e z l = absurd (omega (arith, l))
  zip_at [] (y ∷ ys) i d e z l = absurd z
  zip_at (x ∷ xs) [] i d e z l = absurd z
  zip_at (x ∷ xs) (y ∷ ys) zero d e z l = z.0
  zip_at (x ∷ xs) (y ∷ ys) (suc i) d e z l = zip_at xs ys i d e z.1 (omega (arith, l))
