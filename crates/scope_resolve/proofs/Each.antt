-- What holds of each element of a list, so far and in the end.
use Rattle.std.proofs.Common.{ℕ, ◌≡◌, ◌<◌, ◌≤◌, ◌+◌, ◌⊎◌, inl, inr, ◌∙◌, List, [], ◌∷◌, length, get_or, take, sym, subst}
use Rattle.std.specs.Prelude.{Contains, All}
use Rattle.std.proofs.lemmas.List.{take_more}
use Rattle.std.proofs.lemmas.List.Elements.{Contains-append_cases}
use Rattle.scope_model.proofs.Lists.{In, in_of, contains_of, in_at}
use Rattle.scope_resolve.proofs.Tests.{take_whole}

pub each_more : {X : Type 0} (P : X → Type 0) (xs : List X) (k : ℕ) (x : X) → k < length xs → x ≡ get_or xs k x → ((y : X) → Contains (take k xs) y → P y) → P x → (y : X) → Contains (take (k + 1) xs) y → P y
each_more P xs k x l e each p y c = by_side (Contains-append_cases (take k xs) (get_or xs k x ∷ []) y (subst (λ zs. Contains zs y) (take_more xs k x l) c))
  where
    by_side : Contains (take k xs) y ⊎ Contains (get_or xs k x ∷ []) y → P y
    by_side (inl d) = each y d
    by_side (inr d) = by_only (in_of (get_or xs k x ∷ []) y d)
      where
        by_only : In y (get_or xs k x ∷ []) → P y
        by_only (inl q) = subst P (e ∙ sym q) p
        by_only (inr j) = absurd j

pub each_whole : {X : Type 0} (P : X → Type 0) (xs : List X) (k : ℕ) → length xs ≤ k → ((y : X) → Contains (take k xs) y → P y) → (y : X) → Contains xs y → P y
each_whole P xs k l each y c = each y (subst (λ zs. Contains zs y) (sym (take_whole xs k l)) c)

pub each_first : {X : Type 0} (P : X → Type 0) (xs : List X) (y : X) → Contains (take 0 xs) y → P y
each_first P [] y c = absurd (in_of [] y c)
each_first P (x ∷ xs) y c = absurd (in_of [] y c)

pub all_of : {X : Type 0} (P : X → Type 0) (xs : List X) → ((y : X) → Contains xs y → P y) → All P xs
all_of P xs each k d l = each (get_or xs k d) (contains_of xs (get_or xs k d) (in_at xs k d l))

pub all_in : {X : Type 0} (P : X → Type 0) (xs : List X) (k : ℕ) (x : X) → k < length xs → x ≡ get_or xs k x → All P xs → P x
all_in P xs k x l e a = subst P (sym e) (a k x l)

pub there_at : {X : Type 0} (xs : List X) (k : ℕ) (x : X) → k < length xs → x ≡ get_or xs k x → Contains xs x
there_at xs k x l e = (k, l, sym e)
