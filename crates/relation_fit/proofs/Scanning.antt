-- Numbers that are looked at one after another, and those of them of which something holds.
use Rattle.std.specs.Prelude.{ℕ, ◌≡◌, ◌+◌, ◌<◌, ◌≤◌, ◌⊎◌, List, [], ◌∷◌, ◌++◌, length}
use Rattle.std.proofs.Common.{◌∙◌, sym, subst, arith, inl, inr, length-append}
use Rattle.std.specs.List.{Any}
use Rattle.std.proofs.lemmas.Bool.{cases_lt}
use Rattle.std.proofs.lemmas.List.{get_or_append_left}
use Rattle.std.proofs.lemmas.List.Quantifiers.{Any-push}
use Rattle.type_hierarchy.specs.declared.types.Ty.{Ty}

-- each number from one on to before another of which it holds is among these types
abbrev pub AreFound : (ℕ → Type 0) → ℕ → ℕ → List Ty → Type 0
AreFound P from to found = (t : ℕ) → from ≤ t → t < to → P t → Any (λ u. u.0 ≡ t) found

any_front : (P : Ty → Type 0) (xs : List Ty) (y : Ty) → Any P xs → Any P (xs ++ y ∷ [])
any_front P xs y a =
    let n = length-append xs (y ∷ []) in
    let l = a.2 in
    (a.0, a.1, omega (arith, l, n), get_or_append_left xs (y ∷ []) a.1 a.0 l ∙ a.3, a.4)

pub found_none : (P : ℕ → Type 0) (from : ℕ) (found : List Ty) → AreFound P from from found
found_none P from found s a b p = absurd (omega (arith, a, b))

module _ (P : ℕ → Type 0) (from t : ℕ) (old : List Ty) (h : AreFound P from t old) where
  -- the next is taken
  pub found_next : (new : List Ty) (next : ℕ) → new ≡ old ++ record { 0 = t } ∷ [] → next ≡ t + 1 → AreFound P from next new
  found_next new next e n s a b p = subst (Any (λ u. u.0 ≡ s)) (sym e) (by_case (cases_lt s t))
    where
      by_case : (s < t) ⊎ (t ≤ s) → Any (λ u. u.0 ≡ s) (old ++ record { 0 = t } ∷ [])
      by_case (inl lt) = any_front (λ u. u.0 ≡ s) old (record { 0 = t }) (h s a lt p)
      by_case (inr le) = Any-push (λ u. u.0 ≡ s) old (record { 0 = t }) (omega (arith, le, b, n))

  -- or it doesn't hold of it
  pub found_not : (next : ℕ) → (P t → ⊥) → next ≡ t + 1 → AreFound P from next old
  found_not next isnt n s a b p = by_case (cases_lt s t)
    where
      by_case : (s < t) ⊎ (t ≤ s) → Any (λ u. u.0 ≡ s) old
      by_case (inl lt) = h s a lt p
      by_case (inr le) = absurd (isnt (subst P (omega (arith, le, b, n)) p))
