-- Instances by their place among the instances.
use Rattle.std.proofs.Common.{ℕ, zero, suc, ◌≡◌, ◌≤◌, ◌+◌, Bool, true, false, cond, List, [], ◌∷◌, ◌++◌, length, filter, take, Some, None, ◌∙◌, ap, arith, length-append}
use Rattle.std.specs.Prelude.{slice_get}
use Rattle.std.proofs.lemmas.List.{take_all}
use Rattle.std.proofs.lemmas.List.Elements.{filter_more}
use Rattle.std.proofs.lemmas.Option.{slice_get_past, slice_get_within, get_or_from_slice_get}

-- an element that passes stands where those that passed before it end
pub kept_at : {A : Type 0} (p : A → Bool) (xs : List A) (i : ℕ) (x : A) → slice_get xs i ≡ Some x → p x ≡ true → slice_get (filter p xs) (length (filter p (take i xs))) ≡ Some x
kept_at p [] i x e t = absurd (let z : None ≡ Some x = e in cc)
kept_at p (y ∷ xs) zero x e t =
    let z : Some y ≡ Some x = e in
    let s : y ≡ x = cc in
    ap (λ b. slice_get (cond b (y ∷ filter p xs) (filter p xs)) 0) (ap p s ∙ t) ∙ ap Some s
kept_at {A} p (y ∷ xs) (suc i) x e t = go (p y) (kept_at p xs i x e t)
  where
    go : (b : Bool) → slice_get (filter p xs) (length (filter p (take i xs))) ≡ Some x → slice_get (cond b (y ∷ filter p xs) (filter p xs)) (length (cond b (y ∷ filter p (take i xs)) (filter p (take i xs)))) ≡ Some x
    go true rest = rest
    go false rest = rest

-- how many passed up to a place
pub count_next : {A : Type 0} (p : A → Bool) (xs : List A) (i : ℕ) (x : A) (b : Bool) → slice_get xs i ≡ Some x → p x ≡ b → length (filter p (take (i + 1) xs)) ≡ length (filter p (take i xs)) + length (cond b (x ∷ []) [])
count_next p xs i x b e t =
    ap length (filter_more p xs i x (slice_get_within xs i x e) ∙ ap (λ z. filter p (take i xs) ++ cond (p z) (z ∷ []) []) (get_or_from_slice_get xs i x x e) ∙ ap (λ k. filter p (take i xs) ++ cond k (x ∷ []) []) t)
    ∙ length-append (filter p (take i xs)) (cond b (x ∷ []) [])

pub none_there : {A : Type 0} (p : A → Bool) (xs : List A) (i k : ℕ) → length xs ≤ i → length (filter p (take i xs)) ≤ k → slice_get (filter p xs) k ≡ None
none_there p xs i k past le = slice_get_past (filter p xs) k (omega (arith, le, ap (λ l. length (filter p l)) (take_all i xs past)))
