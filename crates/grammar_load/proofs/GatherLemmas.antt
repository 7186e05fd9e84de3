-- What is gathered of some of a list, element by element.
use Rattle.std.proofs.Common.{ℕ, ◌≡◌, ◌<◌, ◌+◌, Bool, true, false, cond, List, [], ◌∷◌, ◌++◌, length, map, filter, take, get_or, refl, sym, ◌∙◌, ap}
use Rattle.std.proofs.lemmas.List.{map-append, take_more}

filter-append : {A : Type 0} (p : A → Bool) (xs ys : List A) → filter p (xs ++ ys) ≡ filter p xs ++ filter p ys
filter-append p [] ys = refl
filter-append p (x ∷ xs) ys = go (p x) (filter-append p xs ys)
  where
    go : (b : Bool) → filter p (xs ++ ys) ≡ filter p xs ++ filter p ys → cond b (x ∷ filter p (xs ++ ys)) (filter p (xs ++ ys)) ≡ cond b (x ∷ filter p xs) (filter p xs) ++ filter p ys
    go true e = ap (λ l. x ∷ l) e
    go false e = e

map-one : {A B : Type 0} (f : A → B) (p : A → Bool) (x : A) → map f (filter p (x ∷ [])) ≡ cond (p x) (f x ∷ []) []
map-one f p x = go (p x)
  where
    go : (b : Bool) → map f (cond b (x ∷ []) []) ≡ cond b (f x ∷ []) []
    go true = refl
    go false = refl

-- one element more
pub gathered_next : {A B C : Type 0} (f : B → C) (p : B → Bool) (g : A → B) (xs : List A) (i : ℕ) (x : A) → i < length xs → x ≡ get_or xs i x
    → map f (filter p (map g (take (i + 1) xs))) ≡ map f (filter p (map g (take i xs))) ++ cond (p (g x)) (f (g x) ∷ []) []
gathered_next f p g xs i x lt e =
    ap (λ l. map f (filter p (map g l))) (take_more xs i x lt ∙ ap (λ y. take i xs ++ y ∷ []) (sym e))
    ∙ ap (λ l. map f (filter p l)) (map-append g (take i xs) (x ∷ []))
    ∙ ap (map f) (filter-append p (map g (take i xs)) (g x ∷ []))
    ∙ map-append f (filter p (map g (take i xs))) (filter p (g x ∷ []))
    ∙ ap (λ l. map f (filter p (map g (take i xs))) ++ l) (map-one f p (g x))

-- the step of a loop
pub gathered : {A B C : Type 0} (f : B → C) (p : B → Bool) (g : A → B) (xs : List A) (i : ℕ) (x : A) (b : Bool) (new old : List C) → i < length xs → x ≡ get_or xs i x → b ≡ p (g x)
    → old ≡ map f (filter p (map g (take i xs))) → new ≡ old ++ cond b (f (g x) ∷ []) [] → new ≡ map f (filter p (map g (take (i + 1) xs)))
gathered f p g xs i x b new old lt e same had has =
    has ∙ ap (λ l. l ++ cond b (f (g x) ∷ []) []) had ∙ ap (λ k. map f (filter p (map g (take i xs))) ++ cond k (f (g x) ∷ []) []) same ∙ sym (gathered_next f p g xs i x lt e)

pub take_next : {A : Type 0} (xs : List A) (i : ℕ) (x : A) → i < length xs → x ≡ get_or xs i x → take (i + 1) xs ≡ take i xs ++ x ∷ []
take_next xs i x lt e = take_more xs i x lt ∙ ap (λ y. take i xs ++ y ∷ []) (sym e)
