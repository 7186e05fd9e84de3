-- Lists, and what they have.
use Rattle.std.proofs.Common.{ℕ, zero, suc, ◌≡◌, ◌<◌, ◌⊎◌, inl, inr, List, [], ◌∷◌, map, length, get_or, refl, sym, ap, subst, arith}
use Rattle.std.specs.Prelude.{All, Contains}
use Rattle.std.specs.List.{AllZip}
use Rattle.std.proofs.lemmas.List.Elements.{All-head, All-tail}

abbrev pub In : {A : Type 0} → A → List A → Type 0
In x [] = ⊥
In x (y ∷ ys) = (x ≡ y) ⊎ In x ys

pub in_of : {A : Type 0} (xs : List A) (x : A) → Contains xs x → In x xs
in_of [] x c = absurd (let l = c.1 in omega (arith, l))
in_of (y ∷ ys) x c = at c.0 c.1 c.2 (λ k l e. in_of ys x (k, l, e))
  where
    at : (k : ℕ) → k < length (y ∷ ys) → get_or (y ∷ ys) k x ≡ x → ((j : ℕ) → j < length ys → get_or ys j x ≡ x → In x ys) → In x (y ∷ ys)
    at zero l e go = inl (sym e)
    at (suc k) l e go = inr (go k (omega (arith, l)) e)

pub contains_of : {A : Type 0} (xs : List A) (x : A) → In x xs → Contains xs x
contains_of [] x h = absurd h
contains_of (y ∷ ys) x (inl e) = (0, omega arith, sym e)
contains_of (y ∷ ys) x (inr h) = let c = contains_of ys x h in let l = c.1 in (suc c.0, omega (arith, l), c.2)

pub all_in : {A : Type 0} (P : A → Type 0) (xs : List A) (x : A) → All P xs → In x xs → P x
all_in P [] x a i = absurd i
all_in P (y ∷ xs) x a (inl e) = subst P (sym e) (All-head P y xs a)
all_in P (y ∷ xs) x a (inr i) = all_in P xs x (All-tail P y xs a) i

-- lists whose images are one are one, where the function tells apart what is in them
pub map_one : {A B : Type 0} (f : A → B) (P : A → Type 0) → ((x y : A) → P x → P y → f x ≡ f y → x ≡ y) → (xs ys : List A) → All P xs → All P ys → map f xs ≡ map f ys → xs ≡ ys
map_one f P one [] [] a b e = refl
map_one f P one [] (y ∷ ys) a b e = absurd (cc)
map_one f P one (x ∷ xs) [] a b e = absurd (cc)
map_one f P one (x ∷ xs) (y ∷ ys) a b e =
    let head : x ≡ y = one x y (All-head P x xs a) (All-head P y ys b) (cc) in
    let tail : xs ≡ ys = map_one f P one xs ys (All-tail P x xs a) (All-tail P y ys b) (cc) in
    λ i. head i ∷ tail i

pub zip_length : {A B : Type 0} (R : A → B → Type 0) (xs : List A) (ys : List B) → AllZip R xs ys → length ys ≡ length xs
zip_length R [] [] z = refl
zip_length R [] (y ∷ ys) z = absurd z
zip_length R (x ∷ xs) [] z = absurd z
zip_length R (x ∷ xs) (y ∷ ys) z = ap suc (zip_length R xs ys z.1)

-- at each place of the one list there is an element of the other
pub zip_at : {A : Type 0} (R : A → ℕ → Type 0) (xs : List A) (ys : List ℕ) (k : ℕ) (x : A) → AllZip R xs ys → k < length xs → get_or xs k x ≡ x → R x (get_or ys k 0)
zip_at R [] ys k x z l e = absurd (omega (arith, l))
zip_at R (w ∷ xs) [] k x z l e = absurd z
zip_at R (w ∷ xs) (y ∷ ys) zero x z l e = subst (λ v. R v y) e z.0
zip_at R (w ∷ xs) (y ∷ ys) (suc k) x z l e = zip_at R xs ys k x z.1 (omega (arith, l)) e
