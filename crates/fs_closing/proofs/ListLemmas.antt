-- Lists with one more at their end.
use Rattle.std.proofs.Common.{ℕ, zero, suc, ◌≡◌, ◌≤◌, ◌<◌, ◌+◌, ◌⊎◌, inl, inr, List, [], ◌∷◌, ◌++◌, length, slice_index_or, refl, sym, ◌∙◌, ap, subst, arith, length-append}
use Rattle.std.proofs.lemmas.Bool.{cases_lt}
use Rattle.std.proofs.Math.ListN.{get_or-append}
use Rattle.std.proofs.Math.Seq.{get_or-append_seam}

-- an element of a list with one more at its end
pub at_push : {X : Type 0} (xs : List X) (x d : X) (k : ℕ) → k < length xs + 1 →
    ((k < length xs) × (slice_index_or (xs ++ x ∷ []) k d ≡ slice_index_or xs k d)) ⊎ ((k ≡ length xs) × (slice_index_or (xs ++ x ∷ []) k d ≡ x))
at_push xs x d k h = go (cases_lt k (length xs))
  where
    go : (k < length xs) ⊎ (length xs ≤ k) →
        ((k < length xs) × (slice_index_or (xs ++ x ∷ []) k d ≡ slice_index_or xs k d)) ⊎ ((k ≡ length xs) × (slice_index_or (xs ++ x ∷ []) k d ≡ x))
    go (inl a) = inl (a, get_or-append xs (x ∷ []) d k a)
    go (inr a) =
        let e : k ≡ length xs = omega arith in
        inr (e, ap (λ i. slice_index_or (xs ++ x ∷ []) i d) e ∙ get_or-append_seam xs x [] d)

pub push_all : {X : Type 0} (P : ℕ → X → Type 0) (xs : List X) (x d : X) → ((k : ℕ) → k < length xs → P k (slice_index_or xs k d)) →
    P (length xs) x → (k : ℕ) → k < length xs + 1 → P k (slice_index_or (xs ++ x ∷ []) k d)
push_all P xs x d old new k h = go (at_push xs x d k h)
  where
    go : ((k < length xs) × (slice_index_or (xs ++ x ∷ []) k d ≡ slice_index_or xs k d)) ⊎ ((k ≡ length xs) × (slice_index_or (xs ++ x ∷ []) k d ≡ x)) →
        P k (slice_index_or (xs ++ x ∷ []) k d)
    go (inl a) = subst (P k) (sym a.1) (old k a.0)
    go (inr a) = subst (P k) (sym a.1) (subst (λ i. P i x) (sym a.0) new)

-- one more default changes nothing
pub push_default : {X : Type 0} (xs : List X) (d : X) (k : ℕ) → slice_index_or (xs ++ d ∷ []) k d ≡ slice_index_or xs k d
push_default [] d zero = refl
push_default [] d (suc k) = refl
push_default (x ∷ xs) d zero = refl
push_default (x ∷ xs) d (suc k) = push_default xs d k

pub types_pushed : (xs ys : List ℕ) (n : ℕ) → ys ≡ xs ++ 0 ∷ [] → length xs ≡ n → length ys ≡ n + 1
types_pushed xs ys n is size = ap length is ∙ length-append xs (0 ∷ []) ∙ (let e : length xs + 1 ≡ n + 1 = omega (arith, size) in e)

pub types_added : (xs ys more : List ℕ) (n m : ℕ) → ys ≡ xs ++ more → length xs ≡ n → length more ≡ m → length ys ≡ n + m
types_added xs ys more n m is size added = ap length is ∙ length-append xs more ∙ (let e : length xs + length more ≡ n + m = omega (arith, size, added) in e)
