-- Words that are added one by one, each after a blank.
use Rattle.std.proofs.Common.{◌≡◌, ℕ, zero, suc, ◌<◌, ◌≤◌, ◌∙◌, sym, ap, refl, List, [], ◌∷◌, ◌++◌, length, take, map, get_or, arith, append_assoc, append-nil, ◌+◌, add-one}
use Rattle.command_files.specs.FaultTexts.{spaced}

-- one word more
pub spaced-more : {X : Type 0} (f : X → List ℕ) (xs : List X) (i : ℕ) (x : X) → i < length xs → get_or xs i x ≡ x → spaced (map f (take (suc i) xs)) ≡ spaced (map f (take i xs)) ++ 32 ∷ f x
spaced-more f [] i x h e = absurd (omega (arith, h))
spaced-more f (y ∷ ys) zero x h e = ap (λ t. 32 ∷ t) (append-nil (f y)) ∙ ap (λ t. 32 ∷ f t) e
spaced-more f (y ∷ ys) (suc i) x h e = ap (λ t. 32 ∷ (f y ++ t)) (spaced-more f ys i x (omega (arith, h)) e) ∙ ap (λ t. 32 ∷ t) (sym (append_assoc (f y) (spaced (map f (take i ys))) (32 ∷ f x)))

get_or-default : {X : Type 0} (xs : List X) (i : ℕ) (d e : X) → i < length xs → get_or xs i d ≡ get_or xs i e
get_or-default [] i d e h = absurd (omega (arith, h))
get_or-default (x ∷ xs) zero d e h = refl
get_or-default (x ∷ xs) (suc i) d e h = get_or-default xs i d e (omega (arith, h))

pub word-more : {X : Type 0} (f : X → List ℕ) (xs : List X) (i : ℕ) (d : X) (w : List ℕ) → i < length xs → w ≡ f (get_or xs i d) → spaced (map f (take (suc i) xs)) ≡ spaced (map f (take i xs)) ++ 32 ∷ w
word-more f xs i d w h e = spaced-more f xs i (get_or xs i d) h (get_or-default xs i (get_or xs i d) d h) ∙ ap (λ t. spaced (map f (take i xs)) ++ 32 ∷ t) (sym e)

pub take-whole : {X : Type 0} (xs : List X) (i : ℕ) → length xs ≤ i → take i xs ≡ xs
take-whole [] zero h = refl
take-whole [] (suc i) h = refl
take-whole (x ∷ xs) zero h = absurd (omega (arith, h))
take-whole (x ∷ xs) (suc i) h = ap (λ t. x ∷ t) (take-whole xs i (omega (arith, h)))

-- a word was added to a line
pub word-step : {X : Type 0} (f : X → List ℕ) (xs : List X) (i : ℕ) (d : X) (line before new : List ℕ) → i < length xs → before ≡ line ++ spaced (map f (take i xs)) → new ≡ before ++ 32 ∷ f (get_or xs i d) → new ≡ line ++ spaced (map f (take (i + 1) xs))
word-step f xs i d line before new h inv e =
    e ∙ ap (λ t. t ++ 32 ∷ f (get_or xs i d)) inv ∙ append_assoc line (spaced (map f (take i xs))) (32 ∷ f (get_or xs i d))
    ∙ ap (λ t. line ++ t) (sym (word-more f xs i d (f (get_or xs i d)) h refl)) ∙ ap (λ k. line ++ spaced (map f (take k xs))) (sym (add-one i))
