-- Lists whose elements stand for the same.
use Rattle.std.proofs.Common.{◌≡◌, ℕ, zero, suc, ◌+◌, ◌<◌, ◌≤◌, List, [], ◌∷◌, map, length, get_or, refl, ap, sym, subst, ◌∙◌, arith, below_more}
use Rattle.std.specs.List.{All, Any}
use Rattle.std.proofs.lemmas.List.{get_or-map}
use Rattle.std.proofs.lemmas.List.Elements.{All-map}

pub map_same : {X Y : Type 0} (f : X → Y) (xs ys : List X) → length xs ≡ length ys → ((j : ℕ) (d : X) → j < length xs → f (get_or xs j d) ≡ f (get_or ys j d)) → map f xs ≡ map f ys
map_same f [] [] e h = refl
map_same f [] (y ∷ ys) e h = absurd (omega arith)
map_same f (x ∷ xs) [] e h = absurd (omega arith)
map_same f (x ∷ xs) (y ∷ ys) e h =
    let head : f x ≡ f y = h 0 x (omega arith) in
    let tail : map f xs ≡ map f ys = map_same f xs ys (omega arith) (λ j d l. h (suc j) d (omega arith)) in
    cc

pub map_at : {X Y : Type 0} (f : X → Y) (xs ys : List X) (j : ℕ) (d e : X) → map f xs ≡ map f ys → j < length xs → f (get_or xs j d) ≡ f (get_or ys j e)
map_at f [] ys j d e m l = absurd (omega arith)
map_at f (x ∷ xs) [] j d e m l = absurd (cc)
map_at f (x ∷ xs) (y ∷ ys) zero d e m l = cc
map_at f (x ∷ xs) (y ∷ ys) (suc j) d e m l = map_at f xs ys j d e (cc) (omega arith)

pub map_length : {X Y : Type 0} (f : X → Y) (xs ys : List X) → map f xs ≡ map f ys → length xs ≡ length ys
map_length f [] [] m = refl
map_length f [] (y ∷ ys) m = absurd (cc)
map_length f (x ∷ xs) [] m = absurd (cc)
map_length f (x ∷ xs) (y ∷ ys) m = ap suc (map_length f xs ys (cc))

pub length_rows : {X Y : Type 0} (f : X → Y) (xs : List X) → length (map f xs) ≡ length xs
length_rows f [] = refl
length_rows f (x ∷ xs) = ap suc (length_rows f xs)

-- what holds of each row, and of what it stands for
pub all_rows : {X Y : Type 0} (f : X → Y) (P : Y → Type 0) (xs : List X) → All (λ x. P (f x)) xs → All P (map f xs)
all_rows f P xs h = All-map P f xs h

pub rows_all : {X Y : Type 0} (f : X → Y) (P : Y → Type 0) (xs : List X) → All P (map f xs) → All (λ x. P (f x)) xs
rows_all f P xs h = λ k d l. subst P (get_or-map f xs k d (f d) l) (h k (f d) (omega (arith, length_rows f xs, l)))

pub any_rows : {X Y : Type 0} (f : X → Y) (P : Y → Type 0) (xs : List X) → Any (λ x. P (f x)) xs → Any P (map f xs)
any_rows f P xs (k, x, l, e, p) = (k, f x, omega (arith, length_rows f xs, l), get_or-map f xs k x (f x) l ∙ ap f e, p)

some_row : {X : Type 0} (xs : List X) (k : ℕ) → k < length xs → X
some_row [] k l = absurd (omega arith)
some_row (x ∷ xs) k l = x

same_read : {X : Type 0} (xs : List X) (k : ℕ) (d e : X) → k < length xs → get_or xs k e ≡ get_or xs k d
same_read [] k d e l = absurd (omega arith)
same_read (x ∷ xs) zero d e l = refl
same_read (x ∷ xs) (suc k) d e l = same_read xs k d e (omega arith)

pub rows_any : {X Y : Type 0} (f : X → Y) (P : Y → Type 0) (xs : List X) → Any P (map f xs) → Any (λ x. P (f x)) xs
rows_any f P xs (k, y, l, e, p) =
    let m : k < length xs = omega (arith, length_rows f xs, l) in
    let d = some_row xs k m in
    let x = get_or xs k d in
    (k, x, m, same_read xs k d x m, subst P (sym e ∙ get_or-map f xs k d y m) p)

-- a name in a list of names
pub names_at : {X Y : Type 0} (f : X → Y) (g : Y → List ℕ) (xs : List X) (k : ℕ) (x : X) → k < length xs → get_or (map g (map f xs)) k [] ≡ g (f (get_or xs k x))
names_at f g xs k x l = get_or-map g (map f xs) k (f x) [] (omega (arith, length_rows f xs, l)) ∙ ap g (get_or-map f xs k x (f x) l)

pub names_length : {X Y Z : Type 0} (f : X → Y) (g : Y → Z) (xs : List X) → length (map g (map f xs)) ≡ length xs
names_length f g xs = length_rows g (map f xs) ∙ length_rows f xs

-- none of the first ones is so
abbrev pub NoneTo : {X : Type 0} → (X → Type 0) → List X → ℕ → Type 0
NoneTo {X} P xs k = (j : ℕ) (d : X) → j < k → P (get_or xs j d) → ⊥

pub any_here : {X : Type 0} (P : X → Type 0) (xs : List X) (k : ℕ) (x : X) → k < length xs → x ≡ get_or xs k x → P x → Any P xs
any_here P xs k x l e p = (k, x, l, sym e, p)

pub none_more : {X : Type 0} (P : X → Type 0) (xs : List X) (k : ℕ) (x : X) → k < length xs → x ≡ get_or xs k x → NoneTo P xs k → (P x → ⊥) → NoneTo P xs (k + 1)
none_more {X} P xs k x l e before this = λ j d h.
    (below_more (λ i. (y : X) → P (get_or xs i y) → ⊥) k (λ i m y. before i y m) (λ y p. this (subst P (same_read xs k x y l ∙ sym e) p)) j h) d

pub none_of : {X : Type 0} (P : X → Type 0) (xs : List X) (k : ℕ) → length xs ≤ k → NoneTo P xs k → Any P xs → ⊥
none_of P xs k le none (j, x, l, e, p) = none j x (omega (arith, l, le)) (subst P (sym e) p)
