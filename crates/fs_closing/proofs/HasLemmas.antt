-- Elements of lists that are put together.
use Rattle.std.proofs.Common.{ℕ, zero, suc, ◌≡◌, ◌<◌, ◌⊎◌, inl, inr, List, [], ◌∷◌, ◌++◌, length, slice_index_or, reverse, map, refl, sym, subst, arith}
use Rattle.std.proofs.lemmas.List.{reverse-append}
use Rattle.std.specs.Prelude.{flat_map}
use Rattle.fs_model.specs.Claims.{Has, here, there}

pub Has-left : {X : Type 0} (x : X) (xs ys : List X) → Has x xs → Has x (xs ++ ys)
Has-left x _ ys here = here
Has-left x _ ys (there h) = there (Has-left x _ ys h)

pub Has-right : {X : Type 0} (x : X) (xs ys : List X) → Has x ys → Has x (xs ++ ys)
Has-right x [] ys h = h
Has-right x (z ∷ xs) ys h = there (Has-right x xs ys h)

pub Has-either : {X : Type 0} (x : X) (xs ys : List X) → Has x (xs ++ ys) → Has x xs ⊎ Has x ys
Has-either x [] ys h = inr h
Has-either x (z ∷ xs) ys here = inl here
Has-either x (z ∷ xs) ys (there h) = go (Has-either x xs ys h)
  where
    go : Has x xs ⊎ Has x ys → Has x (z ∷ xs) ⊎ Has x ys
    go (inl a) = inl (there a)
    go (inr a) = inr a

pub Has-map : {X Y : Type 0} (f : X → Y) (x : X) (xs : List X) → Has x xs → Has (f x) (map f xs)
Has-map f x _ here = here
Has-map f x _ (there h) = there (Has-map f x _ h)

pub Has-of_map : {X Y : Type 0} (f : X → Y) (y : Y) (xs : List X) → Has y (map f xs) → (x : X) × Has x xs × (y ≡ f x)
Has-of_map f y [] h = elim h [ ]
Has-of_map f y (x ∷ xs) here = (x, here, refl)
Has-of_map f y (x ∷ xs) (there h) = let r = Has-of_map f y xs h in (r.0, there r.1, r.2)

pub Has-one : {X : Type 0} (c d : X) → Has c (d ∷ []) → c ≡ d
Has-one c _ here = refl
Has-one c d (there h) = elim h [ ]

pub Has-flat : {X Y : Type 0} (f : X → List Y) (x : X) (y : Y) (xs : List X) → Has x xs → Has y (f x) → Has y (flat_map f xs)
Has-flat f x y [] h i = elim h [ ]
Has-flat f x y (_ ∷ xs) here h = Has-left y (f x) (flat_map f xs) h
Has-flat f x y (z ∷ xs) (there i) h = Has-right y (f z) (flat_map f xs) (Has-flat f x y xs i h)

pub Has-of_flat : {X Y : Type 0} (f : X → List Y) (y : Y) (xs : List X) → Has y (flat_map f xs) → (x : X) × Has x xs × Has y (f x)
Has-of_flat f y [] h = elim h [ ]
Has-of_flat f y (x ∷ xs) h = go (Has-either y (f x) (flat_map f xs) h) (Has-of_flat f y xs)
  where
    go : Has y (f x) ⊎ Has y (flat_map f xs) → (Has y (flat_map f xs) → (z : _) × Has z xs × Has y (f z)) → (z : _) × Has z (x ∷ xs) × Has y (f z)
    go (inl a) rest = (x, here, a)
    go (inr a) rest = let r = rest a in (r.0, there r.1, r.2)

-- one more, as a fact of all elements
pub each_push : {X : Type 0} (P : X → Type 0) (xs xs' : List X) (y : X) → xs' ≡ xs ++ y ∷ [] → ((x : X) → Has x xs → P x) → P y →
    (x : X) → Has x xs' → P x
each_push P xs xs' y is old new x h = go (Has-either x xs (y ∷ []) (subst (Has x) is h))
  where
    go : Has x xs ⊎ Has x (y ∷ []) → P x
    go (inl a) = old x a
    go (inr a) = subst P (sym (Has-one x y a)) new

pub Has-at : {X : Type 0} (xs : List X) (k : ℕ) (d : X) → k < length xs → Has (slice_index_or xs k d) xs
Has-at [] k d h = absurd (omega arith)
Has-at (x ∷ xs) zero d h = here
Has-at (x ∷ xs) (suc k) d h = there (Has-at xs k d (omega arith))

pub Has-of_reverse : {X : Type 0} (x : X) (xs : List X) → Has x (reverse xs) → Has x xs
Has-of_reverse x [] h = elim h [ ]
Has-of_reverse x (y ∷ xs) h = go (Has-either x (reverse xs) (y ∷ []) (subst (Has x) (reverse-append (y ∷ []) xs) h)) (Has-of_reverse x xs)
  where
    go : Has x (reverse xs) ⊎ Has x (y ∷ []) → (Has x (reverse xs) → Has x xs) → Has x (y ∷ xs)
    go (inl a) rest = there (rest a)
    go (inr a) rest = subst (λ z. Has z (y ∷ xs)) (sym (Has-one x y a)) here
