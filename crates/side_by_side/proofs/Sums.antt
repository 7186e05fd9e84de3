-- Sums over all views, where one of them changes.
use Rattle.std.proofs.Common.{◌≡◌, ◌≢◌, ℕ, zero, suc, ◌+◌, ◌≤◌, if◌then◌else◌, List, [], ◌∷◌, ◌++◌, length, set, sym, ap, refl, eq-eqb, ne_eqb, arith}
use mathlib.Core.Option.{some, some-injective, some-ne-none}
use lib.ListN.{get_elem?}
use Rattle.side_by_side.specs.Draws.{total, is, times, once_below}

pub total-append : {A : Type 0} (f : A → ℕ) (xs ys : List A) → total f (xs ++ ys) ≡ total f xs + total f ys
total-append f [] ys = omega arith
total-append f (x ∷ xs) ys = let r = total-append f xs ys in omega arith

pub total_set : {A : Type 0} (f : A → ℕ) (l : List A) (i : ℕ) (v w : A) → get_elem? l i ≡ some v → total f (set l i w) + f v ≡ total f l + f w
total_set f [] i v w e = absurd (some-ne-none v (sym e))
total_set f (x ∷ xs) zero v w e = let s : f x ≡ f v = ap f (some-injective x v e) in omega arith
total_set f (x ∷ xs) (suc i) v w e = let r = total_set f xs i v w e in omega arith

-- one of the numbers is part of the sum
pub total_part : {A : Type 0} (f : A → ℕ) (l : List A) (i : ℕ) (v : A) → get_elem? l i ≡ some v → f v ≤ total f l
total_part f [] i v e = absurd (some-ne-none v (sym e))
total_part f (x ∷ xs) zero v e = let s : f x ≡ f v = ap f (some-injective x v e) in omega arith
total_part f (x ∷ xs) (suc i) v e = let r = total_part f xs i v e in omega arith

-- each is at most another, so the sums are, with room where one has room
pub total_room : {A : Type 0} (f g : A → ℕ) (l : List A) (i : ℕ) (v : A) → get_elem? l i ≡ some v → ((j : ℕ) (u : A) → get_elem? l j ≡ some u → f u ≤ g u) → total f l + g v ≤ total g l + f v
total_room f g [] i v e each = absurd (some-ne-none v (sym e))
total_room f g (x ∷ xs) zero v e each =
    let s : f x ≡ f v = ap f (some-injective x v e) in let t : g x ≡ g v = ap g (some-injective x v e) in let r = total_le f g xs (λ j u p. each (suc j) u p) in omega arith
  where
    total_le : {A : Type 0} (f g : A → ℕ) (l : List A) → ((j : ℕ) (u : A) → get_elem? l j ≡ some u → f u ≤ g u) → total f l ≤ total g l
    total_le f g [] each = omega arith
    total_le f g (x ∷ xs) each = let a = each 0 x refl in let r = total_le f g xs (λ j u p. each (suc j) u p) in omega arith
total_room f g (x ∷ xs) (suc i) v e each = let a = each 0 x refl in let r = total_room f g xs i v e (λ j u p. each (suc j) u p) in omega arith

pub total_none : {A : Type 0} (f : A → ℕ) (l : List A) → ((j : ℕ) (u : A) → get_elem? l j ≡ some u → f u ≡ 0) → total f l ≡ 0
total_none f [] each = refl
total_none f (x ∷ xs) each = let a = each 0 x refl in let r = total_none f xs (λ j u e. each (suc j) u e) in omega arith

-- where one has the whole of a sum, the others have nothing of it, and so nothing of another sum
pub total_only : {A : Type 0} (g f : A → ℕ) (l : List A) (i : ℕ) (v : A) → get_elem? l i ≡ some v → total g l ≡ g v → ((j : ℕ) (u : A) → get_elem? l j ≡ some u → g u ≡ 0 → f u ≡ 0) → total f l ≡ f v
total_only g f [] i v e whole none = absurd (some-ne-none v (sym e))
total_only g f (x ∷ xs) zero v e whole none =
    let s : f x ≡ f v = ap f (some-injective x v e) in let t : g x ≡ g v = ap g (some-injective x v e) in
    let z : total g xs ≡ 0 = omega arith in
    let r = total_none f xs (λ j u p. none (suc j) u p (let q = total_part g xs j u p in omega arith)) in omega arith
total_only g f (x ∷ xs) (suc i) v e whole none =
    let q = total_part g xs i v e in let z : g x ≡ 0 = omega arith in let a = none 0 x refl z in
    let r = total_only g f xs i v e (omega arith) (λ j u p. none (suc j) u p) in omega arith

pub times-append : (x : ℕ) (xs ys : List ℕ) → times x (xs ++ ys) ≡ times x xs + times x ys
times-append x [] ys = omega arith
times-append x (y ∷ xs) ys = let r = times-append x xs ys in omega arith

pub is_same : (x y : ℕ) → x ≡ y → is x y ≡ 1
is_same x y e = ap (λ b. if b then 1 else 0) (eq-eqb x y e)

pub is_other : (x y : ℕ) → x ≢ y → is x y ≡ 0
is_other x y n = ap (λ b. if b then 1 else 0) (ne_eqb x y n)

-- the next number is once more
pub once_more : (x n : ℕ) → once_below x n + is x n ≡ once_below x (n + 1)
once_more x n = grind arith

pub times_none : (x : ℕ) (l : List ℕ) → length l ≡ 0 → times x l ≡ 0
times_none x [] e = refl
times_none x (y ∷ ys) e = absurd (omega (arith, e))

pub none_below : (x : ℕ) → 0 ≡ once_below x 0
none_below x = grind arith
