-- Lists and their elements.
use Rattle.std.proofs.Common.{ℕ, zero, suc, ◌≡◌, ◌<◌, ◌+◌, ◌≤◌, ◌⊎◌, inl, inr, Bool, true, false, cond, List, [], ◌∷◌, ◌++◌, length, map, filter, take, get_or, slice_index_or, refl, sym, ◌∙◌, ap, subst, arith}
use Rattle.std.specs.List.{flat_map}
use Rattle.std.proofs.lemmas.List.{take_more, take_all, map-append, append_assoc, append-nil}
use Rattle.std.proofs.lemmas.List.Concat.{flat_map-append}
use Rattle.fs_model.specs.Claims.{Has, here, there}

pub bools : (b : Bool) → (b ≡ true) ⊎ (b ≡ false)
bools true = inl refl
bools false = inr refl

pub true_not_false : {A : Type 0} (b : Bool) → b ≡ true → b ≡ false → A
true_not_false b e f = absurd (let z : true ≡ false = sym e ∙ f in cc)

pub Has-left : {X : Type 0} (x : X) (xs ys : List X) → Has x xs → Has x (xs ++ ys)
Has-left x _ ys here = here
Has-left x _ ys (there h) = there (Has-left x _ ys h)

pub Has-right : {X : Type 0} (x : X) (xs ys : List X) → Has x ys → Has x (xs ++ ys)
Has-right x [] ys h = h
Has-right x (z ∷ xs) ys h = there (Has-right x xs ys h)

pub Has-either : {X : Type 0} (x : X) (xs ys : List X) → Has x (xs ++ ys) → Has x xs ⊎ Has x ys
Has-either x [] ys h = inr h
Has-either x (z ∷ xs) ys here = inl here
Has-either x (z ∷ xs) ys (there h) = go (Has-either x xs ys h)
  where
    go : Has x xs ⊎ Has x ys → Has x (z ∷ xs) ⊎ Has x ys
    go (inl a) = inl (there a)
    go (inr a) = inr a

pub Has-one : {X : Type 0} (c d : X) → Has c (d ∷ []) → c ≡ d
Has-one c _ here = refl
Has-one c d (there h) = elim h [ ]

pub Has-cons : {X : Type 0} (c d : X) (xs : List X) → Has c (d ∷ xs) → (c ≡ d) ⊎ Has c xs
Has-cons c _ xs here = inl refl
Has-cons c d xs (there h) = inr h

pub Has-map : {X Y : Type 0} (f : X → Y) (x : X) (xs : List X) → Has x xs → Has (f x) (map f xs)
Has-map f x _ here = here
Has-map f x _ (there h) = there (Has-map f x _ h)

pub Has-of_map : {X Y : Type 0} (f : X → Y) (y : Y) (xs : List X) → Has y (map f xs) → (x : X) × Has x xs × (y ≡ f x)
Has-of_map f y [] h = elim h [ ]
Has-of_map f y (x ∷ xs) here = (x, here, refl)
Has-of_map f y (x ∷ xs) (there h) = let r = Has-of_map f y xs h in (r.0, there r.1, r.2)

pub Has-at : {X : Type 0} (xs : List X) (k : ℕ) (d : X) → k < length xs → Has (slice_index_or xs k d) xs
Has-at [] k d h = absurd (omega arith)
Has-at (x ∷ xs) zero d h = here
Has-at (x ∷ xs) (suc k) d h = there (Has-at xs k d (omega arith))

pub Has-place : {X : Type 0} (x d : X) (xs : List X) → Has x xs → (k : ℕ) × (k < length xs) × (slice_index_or xs k d ≡ x)
Has-place x d [] h = elim h [ ]
Has-place x d (_ ∷ xs) here = (0, omega arith, refl)
Has-place x d (y ∷ xs) (there h) = let r = Has-place x d xs h in (suc r.0, omega (arith, r.1), r.2)

-- an element that a loop reads
pub Has-read : {X : Type 0} (xs : List X) (i : ℕ) (x : X) → i < length xs → x ≡ get_or xs i x → Has x xs
Has-read xs i x h e = subst (λ y. Has y xs) (sym e) (Has-at xs i x h)

-- the elements so far, one turn later
pub map_next : {X Y : Type 0} (f : X → Y) (xs : List X) (i : ℕ) (x : X) → i < length xs → x ≡ get_or xs i x →
    map f (take (i + 1) xs) ≡ map f (take i xs) ++ f x ∷ []
map_next f xs i x h e = ap (map f) (take_more xs i x h ∙ ap (λ y. take i xs ++ y ∷ []) (sym e)) ∙ map-append f (take i xs) (x ∷ [])

-- what holds of each element so far, one turn later
pub each_next : {X Y : Type 0} (P : Y → Type 0) (f : X → Y) (xs : List X) (i : ℕ) (x : X) → i < length xs → x ≡ get_or xs i x →
    ((y : Y) → Has y (map f (take i xs)) → P y) → P (f x) → (y : Y) → Has y (map f (take (i + 1) xs)) → P y
each_next P f xs i x h e old new y has = go (Has-either y (map f (take i xs)) (f x ∷ []) (subst (Has y) (map_next f xs i x h e) has))
  where
    go : Has y (map f (take i xs)) ⊎ Has y (f x ∷ []) → P y
    go (inl a) = old y a
    go (inr a) = subst P (sym (Has-one y (f x) a)) new

pub each_all : {X Y : Type 0} (P : Y → Type 0) (f : X → Y) (xs : List X) (i : ℕ) → length xs ≤ i →
    ((y : Y) → Has y (map f (take i xs)) → P y) → (y : Y) → Has y (map f xs) → P y
each_all P f xs i h old y has = old y (subst (λ l. Has y (map f l)) (sym (take_all i xs h)) has)

pub flat_map_next : {X A : Type 0} (S : X → List A) (xs : List X) (i : ℕ) (x : X) → i < length xs → x ≡ get_or xs i x →
    flat_map S (take (i + 1) xs) ≡ flat_map S (take i xs) ++ S x
flat_map_next S xs i x h e =
    ap (flat_map S) (take_more xs i x h ∙ ap (λ y. take i xs ++ y ∷ []) (sym e)) ∙ flat_map-append S (take i xs) (x ∷ []) ∙ ap (λ l. flat_map S (take i xs) ++ l) (append-nil (S x))

-- one step of a loop that appends what each gives
pub push_step : {X A : Type 0} (S : X → List A) (now new old : List A) (xs : List X) (i : ℕ) (x : X) → i < length xs → x ≡ get_or xs i x →
    new ≡ now ++ S x → now ≡ old ++ flat_map S (take i xs) → new ≡ old ++ flat_map S (take (i + 1) xs)
push_step S now new old xs i x h e grown had =
    grown ∙ ap (λ m. m ++ S x) had ∙ append_assoc old (flat_map S (take i xs)) (S x) ∙ ap (λ l. old ++ l) (sym (flat_map_next S xs i x h e))

pub flat_map-map : {X Y A : Type 0} (g : Y → List A) (f : X → Y) → (xs : List X) → flat_map (λ x. g (f x)) xs ≡ flat_map g (map f xs)
flat_map-map g f [] = refl
flat_map-map g f (x ∷ xs) = ap (λ l. g (f x) ++ l) (flat_map-map g f xs)

-- what doesn't pass gives nothing
pub flat_map-if : {X A : Type 0} (p : X → Bool) (g : X → List A) → (xs : List X) → flat_map (λ x. cond (p x) (g x) []) xs ≡ flat_map g (filter p xs)
flat_map-if p g [] = refl
flat_map-if p g (x ∷ xs) = go (p x) (flat_map-if p g xs)
  where
    go : (b : Bool) → flat_map (λ y. cond (p y) (g y) []) xs ≡ flat_map g (filter p xs) →
        cond b (g x) [] ++ flat_map (λ y. cond (p y) (g y) []) xs ≡ flat_map g (cond b (x ∷ filter p xs) (filter p xs))
    go true e = ap (λ l. g x ++ l) e
    go false e = e
