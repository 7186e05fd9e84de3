-- Elements of lists, by two ways to read them.
use Rattle.std.proofs.Common.{◌≡◌, ℕ, zero, suc, ◌<◌, List, [], ◌∷◌, length, slice_index_or, refl, sym, arith}
use mathlib.Core.Option.{some, some-injective, some-ne-none}
use lib.ListN.{get_elem?}

module _ {A : Type 0} where
  pub or_of : (l : List A) (i : ℕ) (a d : A) → get_elem? l i ≡ some a → slice_index_or l i d ≡ a
  or_of [] i a d e = absurd (some-ne-none a (sym e))
  or_of (x ∷ xs) zero a d e = some-injective x a e
  or_of (x ∷ xs) (suc i) a d e = or_of xs i a d e

  pub below : (l : List A) (i : ℕ) (a : A) → get_elem? l i ≡ some a → i < length l
  below [] i a e = absurd (some-ne-none a (sym e))
  below (x ∷ xs) zero a e = omega arith
  below (x ∷ xs) (suc i) a e = let r = below xs i a e in omega arith

  pub there : (l : List A) (i : ℕ) (d : A) → i < length l → get_elem? l i ≡ some (slice_index_or l i d)
  there [] i d lt = absurd (omega arith)
  there (x ∷ xs) zero d lt = refl
  there (x ∷ xs) (suc i) d lt = there xs i d (omega arith)

  pub only_there : (x : A) (i : ℕ) (a : A) → get_elem? (x ∷ []) i ≡ some a → (i ≡ 0) × (x ≡ a)
  only_there x zero a e = (refl, some-injective x a e)
  only_there x (suc i) a e = absurd (some-ne-none a (sym e))
