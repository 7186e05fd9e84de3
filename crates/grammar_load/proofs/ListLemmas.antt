-- What each element of a list meets.
use Rattle.std.proofs.Common.{ℕ, zero, suc, ◌≡◌, ◌<◌, ◌&&◌, Bool, true, false, cond, List, [], ◌∷◌, ◌++◌, length, map, filter, slice_index_or, Some, refl, ap, arith}
use Rattle.std.specs.Prelude.{slice_get}
use Rattle.std.specs.List.{AllZip}
use Rattle.lexicon.specs.Words.{Each}

pub each_append : {A : Type 0} (P : A → Type 0) (xs ys : List A) → Each P xs → Each P ys → Each P (xs ++ ys)
each_append P [] ys a b = b
each_append P (x ∷ xs) ys a b = (a.0, each_append P xs ys a.1 b)

pub each_map : {A B : Type 0} (P : B → Type 0) (f : A → B) (xs : List A) → Each (λ x. P (f x)) xs → Each P (map f xs)
each_map P f [] a = tt
each_map P f (x ∷ xs) a = (a.0, each_map P f xs a.1)

pub each_filter : {A : Type 0} (P : A → Type 0) (p : A → Bool) (xs : List A) → Each P xs → Each P (filter p xs)
each_filter P p [] a = tt
each_filter {A} P p (x ∷ xs) a = go (p x) (each_filter P p xs a.1)
  where
    go : (b : Bool) → Each P (filter p xs) → Each P (cond b (x ∷ filter p xs) (filter p xs))
    go true rest = (a.0, rest)
    go false rest = rest

pub each_all : {A : Type 0} (P : A → Type 0) (xs : List A) → Each P xs → (k : ℕ) (d : A) → k < length xs → P (slice_index_or xs k d)
each_all P [] e k d h = absurd (omega (arith, h))
each_all P (x ∷ xs) e zero d h = e.0
each_all P (x ∷ xs) e (suc k) d h = each_all P xs e.1 k d (omega (arith, h))

pub all_each : {A : Type 0} (P : A → Type 0) (xs : List A) → ((k : ℕ) (d : A) → k < length xs → P (slice_index_or xs k d)) → Each P xs
all_each P [] at = tt
all_each P (x ∷ xs) at = (at 0 x (omega arith), all_each P xs (λ j d h. at (suc j) d (omega (arith, h))))

-- each element, by its place
pub each_placed : {A : Type 0} (P : A → Type 0) (xs : List A) → ((j : ℕ) (x : A) → j < length xs → slice_get xs j ≡ Some x → P x) → Each P xs
each_placed P [] at = tt
each_placed P (x ∷ xs) at = (at 0 x (omega arith) refl, each_placed P xs (λ j y h e. at (suc j) y (omega (arith, h)) e))

-- what stands beside each
pub each_beside : {A B : Type 0} (R : A → B → Type 0) (P : B → Type 0) → ((x : A) (y : B) → R x y → P y) → (xs : List A) (ys : List B) → AllZip R xs ys → Each P ys
each_beside R P to [] [] z = tt
each_beside R P to [] (y ∷ ys) z = absurd z
each_beside R P to (x ∷ xs) [] z = absurd z
each_beside R P to (x ∷ xs) (y ∷ ys) z = (to x y z.0, each_beside R P to xs ys z.1)

-- those that pass two tests, one after the other
pub filter_both : {A : Type 0} (p q : A → Bool) (xs : List A) → filter (λ x. p x && q x) xs ≡ filter q (filter p xs)
filter_both p q [] = refl
filter_both {A} p q (x ∷ xs) = go (p x) (filter_both p q xs)
  where
    go : (b : Bool) → filter (λ y. p y && q y) xs ≡ filter q (filter p xs) → cond (b && q x) (x ∷ filter (λ y. p y && q y) xs) (filter (λ y. p y && q y) xs) ≡ filter q (cond b (x ∷ filter p xs) (filter p xs))
    go true e = ap (λ l. cond (q x) (x ∷ l) l) e
    go false e = e

-- as many pass beside one another
pub count_beside : {A B : Type 0} (R : A → B → Type 0) (p : A → Bool) (q : B → Bool) → ((x : A) (y : B) → R x y → q y ≡ p x) → (xs : List A) (ys : List B) → AllZip R xs ys → length (filter q ys) ≡ length (filter p xs)
count_beside R p q same [] [] z = refl
count_beside R p q same [] (y ∷ ys) z = absurd z
count_beside R p q same (x ∷ xs) [] z = absurd z
count_beside {A} {B} R p q same (x ∷ xs) (y ∷ ys) z = go (p x) (q y) (same x y z.0) (count_beside R p q same xs ys z.1)
  where
    go : (b c : Bool) → c ≡ b → length (filter q ys) ≡ length (filter p xs) → length (cond c (y ∷ filter q ys) (filter q ys)) ≡ length (cond b (x ∷ filter p xs) (filter p xs))
    go true true e rest = ap suc rest
    go true false e rest = absurd (let z : false ≡ true = e in cc)
    go false true e rest = absurd (let z : true ≡ false = e in cc)
    go false false e rest = rest
