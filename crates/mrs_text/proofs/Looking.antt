-- What holds of each element that was looked at.
use Rattle.std.proofs.Common.{◌≡◌, ℕ, zero, suc, ◌+◌, ◌<◌, ◌≤◌, ◌∙◌, List, [], ◌∷◌, ◌++◌, map, length, get_or, take, refl, ap, sym, subst, arith}
use Rattle.std.specs.List.{All}
use Rattle.std.proofs.lemmas.List.Elements.{All-head, All-tail, All-cons}
use Rattle.std.proofs.lemmas.List.{take_more}

all_last : {X Y : Type 0} (f : X → Y) (P : Y → Type 0) (xs : List X) (x : X) → All P (map f xs) → P (f x) → All P (map f (xs ++ x ∷ []))
all_last f P [] x h p = All-cons P (f x) [] p h
all_last f P (y ∷ ys) x h p = All-cons P (f y) (map f (ys ++ x ∷ [])) (All-head P (f y) (map f ys) h) (all_last f P ys x (All-tail P (f y) (map f ys) h) p)

pub all_more : {X Y : Type 0} (f : X → Y) (P : Y → Type 0) (xs : List X) (k : ℕ) (x : X) → k < length xs → x ≡ get_or xs k x → All P (map f (take k xs)) → P (f x) → All P (map f (take (k + 1) xs))
all_more {X = X} f P xs k x l e h p = subst (λ (ys : List X). All P (map f ys)) (sym (take_more xs k x l ∙ ap (λ (z : X). take k xs ++ z ∷ []) (sym e))) (all_last f P (take k xs) x h p)

take_whole : {X : Type 0} (xs : List X) (k : ℕ) → length xs ≤ k → take k xs ≡ xs
take_whole [] zero l = refl
take_whole [] (suc k) l = refl
take_whole (x ∷ xs) zero l = absurd (omega arith)
take_whole (x ∷ xs) (suc k) l = ap (λ ys. x ∷ ys) (take_whole xs k (omega arith))

pub all_seen : {X Y : Type 0} (f : X → Y) (P : Y → Type 0) (xs : List X) (k : ℕ) → length xs ≤ k → All P (map f (take k xs)) → All P (map f xs)
all_seen {X = X} f P xs k l h = subst (λ (ys : List X). All P (map f ys)) (take_whole xs k l) h

pub rows : {X Y : Type 0} (f : X → Y) (xs : List X) → length (map f xs) ≡ length xs
rows f [] = refl
rows f (x ∷ xs) = ap suc (rows f xs)
