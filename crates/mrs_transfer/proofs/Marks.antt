-- Marks that are made one after the other.
use Rattle.std.proofs.Common.{ℕ, ◌≡◌, ◌<◌, ◌≤◌, ◌+◌, ◌⊎◌, inl, inr, ◌∙◌, Bool, true, false, List, [], ◌∷◌, ◌++◌, length, length-append, get_or, take, refl, sym, subst, ap, arith}
use Rattle.std.specs.Prelude.{◌↔◌, map}
use Rattle.std.specs.List.{Any}
use Rattle.std.proofs.Math.ListN.{set}
use Rattle.std.proofs.lemmas.Bool.{cases_eq, cases_lt}
use Rattle.std.proofs.lemmas.List.{get_or-set_same, get_or-set_other, length-set, get_or_append_left, get_or_push, map_more, take_all}
use Rattle.std.proofs.lemmas.List.Quantifiers.{Any-push}
use Rattle.mrs_transfer.specs.Inner.Trimming.{IsMarked}

left_only : {A B : Type 0} → A ⊎ B → (B → ⊥) → A
left_only (inl a) nay = a
left_only (inr b) nay = absurd (nay b)

-- the same in other words
pub marked_as : (P Q : ℕ → Type 0) (a b : List Bool) → ((v : ℕ) → P v ↔ Q v) → IsMarked P a b → IsMarked Q a b
marked_as P Q a b pq m = record { size = m.size; marks = λ v l. (λ e. on_right ((m.marks v l).0 e) (pq v).0, λ s. (m.marks v l).1 (on_right s (pq v).1)) }
  where
    on_right : {A B C : Type 0} → A ⊎ B → (B → C) → A ⊎ C
    on_right (inl x) f = inl x
    on_right (inr y) f = inr (f y)

pub marked_none : (P : ℕ → Type 0) (marks : List Bool) → ((v : ℕ) → P v → ⊥) → IsMarked P marks marks
marked_none P marks nay = record { size = refl; marks = λ v l. (λ e. inl e, λ s. left_only s (nay v)) }

pub marked_both : (P Q : ℕ → Type 0) (a b c : List Bool) → IsMarked P a b → IsMarked Q b c → IsMarked (λ v. P v ⊎ Q v) a c
marked_both P Q a b c m n = record {
  size = n.size ∙ m.size;
  marks = λ v l. let k : v < length b = omega (arith, m.size) in (
    (λ e. onward ((n.marks v k).0 e) (m.marks v l).0),
    (λ s. backward s (m.marks v l).1 (n.marks v k).1),
  );
}
  where
    regroup : {A B C : Type 0} → A ⊎ B → A ⊎ (B ⊎ C)
    regroup (inl x) = inl x
    regroup (inr y) = inr (inl y)

    onward : {A B C D : Type 0} → D ⊎ C → (D → A ⊎ B) → A ⊎ (B ⊎ C)
    onward (inl x) f = regroup (f x)
    onward (inr y) f = inr (inr y)

    backward : {A B C D E : Type 0} → A ⊎ (B ⊎ C) → (A ⊎ B → D) → (D ⊎ C → E) → E
    backward (inl x) f g = g (inl (f (inl x)))
    backward (inr (inl y)) f g = g (inl (f (inr y)))
    backward (inr (inr z)) f g = g (inr z)

pub marked_set : (marks : List Bool) (w : ℕ) → w < length marks → IsMarked (λ v. w ≡ v) marks (set marks w true)
marked_set marks w h = record { size = length-set marks w true; marks = λ v l. by_case v (cases_eq v w) }
  where
    by_case : (v : ℕ) → (v ≡ w) ⊎ (v ≡ w → ⊥) → (get_or (set marks w true) v false ≡ true) ↔ ((get_or marks v false ≡ true) ⊎ (w ≡ v))
    by_case v (inl e) = (λ _. inr (sym e), λ _. subst (λ (z : ℕ). get_or (set marks w true) z false ≡ true) (sym e) (get_or-set_same marks w true false h))
    by_case v (inr ne) = let s = get_or-set_other marks w v true false ne in (λ e. inl (sym s ∙ e), λ d. s ∙ left_only d (λ e. ne (sym e)))

-- one more of a list
module _ {X : Type 0} where
  any_split : (P : X → Type 0) (xs : List X) (x : X) → Any P (xs ++ x ∷ []) → Any P xs ⊎ P x
  any_split P xs x i = by_case (cases_lt i.0 (length xs))
    where
      within : i.0 < length xs + 1
      within = omega (arith, length-append xs (x ∷ []), i.2)

      by_case : (i.0 < length xs) ⊎ (length xs ≤ i.0) → Any P xs ⊎ P x
      by_case (inl l) = inl (i.0, i.1, l, sym (get_or_append_left xs (x ∷ []) i.1 i.0 l) ∙ i.3, i.4)
      by_case (inr l) = inr (subst P (sym i.3 ∙ get_or_push xs x i.1 i.0 (omega (arith, within, l))) i.4)

  any_join : (P : X → Type 0) (xs : List X) (x : X) → Any P xs ⊎ P x → Any P (xs ++ x ∷ [])
  any_join P xs x (inl i) = (i.0, i.1, omega (arith, length-append xs (x ∷ []), i.2), get_or_append_left xs (x ∷ []) i.1 i.0 i.2 ∙ i.3, i.4)
  any_join P xs x (inr p) = Any-push P xs x p

  pub marked_start : (P : ℕ → X → Type 0) (marks : List Bool) → IsMarked (λ v. Any (P v) []) marks marks
  marked_start P marks = marked_none (λ v. Any (P v) []) marks (λ v i. omega (arith, i.2))

  pub marked_more : (P : ℕ → X → Type 0) (xs : List X) (x : X) (a b c : List Bool) → IsMarked (λ v. Any (P v) xs) a b → IsMarked (λ v. P v x) b c → IsMarked (λ v. Any (P v) (xs ++ x ∷ [])) a c
  marked_more P xs x a b c m n =
      marked_as (λ v. Any (P v) xs ⊎ P v x) (λ v. Any (P v) (xs ++ x ∷ [])) a c (λ v. (λ s. any_join (P v) xs x s, λ i. any_split (P v) xs x i))
      (marked_both (λ v. Any (P v) xs) (λ v. P v x) a b c m n)

-- in a loop over a list, of whose elements only the images count
module _ {R X : Type 0} (g : R → X) (P : ℕ → X → Type 0) where
  pub marked_on : (rs : List R) (i : ℕ) (r : R) (a b c : List Bool) → i < length rs → r ≡ get_or rs i r → IsMarked (λ v. Any (P v) (map g (take i rs))) a b → IsMarked (λ v. P v (g r)) b c
      → IsMarked (λ v. Any (P v) (map g (take (i + 1) rs))) a c
  marked_on rs i r a b c l is m n =
      subst (λ (xs : List X). IsMarked (λ v. Any (P v) xs) a c) (sym (map_more g rs i r l ∙ ap (λ (y : R). map g (take i rs) ++ g y ∷ []) (sym is)))
      (marked_more P (map g (take i rs)) (g r) a b c m n)

  pub marked_end : (rs : List R) (i : ℕ) (a b : List Bool) → length rs ≤ i → IsMarked (λ v. Any (P v) (map g (take i rs))) a b → IsMarked (λ v. Any (P v) (map g rs)) a b
  marked_end rs i a b l m = subst (λ (xs : List R). IsMarked (λ v. Any (P v) (map g xs)) a b) (take_all i rs l) m
