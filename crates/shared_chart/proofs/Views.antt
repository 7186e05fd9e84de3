-- Lemmas on the list of all views, where one of them changes.
use Rattle.std.proofs.Common.{◌≡◌, ◌≢◌, ℕ, zero, suc, ◌+◌, ◌<◌, false, List, [], ◌∷◌, ◌++◌, length, set, sym, ap, ◌∙◌, inl, inr, ⊎_elim, subst, Some, None, arith}
use mathlib.Core.Option.{some, some-injective, some-ne-none}
use mathlib.Core.Logic.{dite}
use native.Mathlib.Decide.{ℕ_discrete}
use Rattle.std.proofs.lemmas.Option.{none-some}
use lib.ListN.{get_elem?}
use Rattle.atomic_table.proofs.Lists.{at_set, set_here, set_else}
use Rattle.shared_chart.specs.declared.view.View.{View}
use Rattle.shared_chart.specs.Turns.{total, Each, Apart, Held, Slotted}

pub total-append : {A : Type 0} (f : A → ℕ) (xs ys : List A) → total f (xs ++ ys) ≡ total f xs + total f ys
total-append f [] ys = omega arith
total-append f (x ∷ xs) ys = let r = total-append f xs ys in omega arith

pub total_set : {A : Type 0} (f : A → ℕ) (l : List A) (i : ℕ) (v w : A) → get_elem? l i ≡ some v → total f (set l i w) + f v ≡ total f l + f w
total_set f [] i v w e = absurd (some-ne-none v (sym e))
total_set f (x ∷ xs) zero v w e = let s : f x ≡ f v = ap f (some-injective x v e) in omega arith
total_set f (x ∷ xs) (suc i) v w e = let r = total_set f xs i v w e in omega arith

pub total_same : {A : Type 0} (f : A → ℕ) (l : List A) (i : ℕ) (v w : A) → get_elem? l i ≡ some v → f w ≡ f v → total f (set l i w) ≡ total f l
total_same f l i v w e same = let t = total_set f l i v w e in omega arith

pub at_less : {A : Type 0} (l : List A) (i : ℕ) (v : A) → get_elem? l i ≡ some v → i < length l
at_less [] i v e = absurd (some-ne-none v (sym e))
at_less (x ∷ xs) zero v e = omega arith
at_less (x ∷ xs) (suc i) v e = let r = at_less xs i v e in omega arith

pub none_some : (t : ℕ) → None ≢ Some t
none_some t e = none-some t e

module _ {B M E : Type 0} where
  pub each_set : (F G : ℕ → View B M E → Type 0) (views : List (View B M E)) (id : ℕ) (w : View B M E) → G id w → ((j : ℕ) (u : View B M E) → j ≢ id → get_elem? views j ≡ some u → F j u → G j u) → Each F views → Each G (set views id w)
  each_set F G views id w mine others old j u e = ⊎_elim (λ (x : (j ≡ id) × (w ≡ u)). subst (λ (y : ℕ × View B M E). G y.0 y.1) (λ i. (sym x.0 i, x.1 i)) mine)
      (λ (x : (j ≢ id) × (get_elem? views j ≡ some u)). others j u x.0 x.1 (old j u x.1)) (at_set views id j w u e)

  -- a seat's turn is new, or as it was
  pub apart_set : (views : List (View B M E)) (id : ℕ) (w : View B M E) → ((j t : ℕ) (u : View B M E) → j ≢ id → get_elem? views j ≡ some u → u.turn ≡ Some t → w.turn ≢ Some t) → Apart views → Apart (set views id w)
  apart_set views id w fresh old i j t a b ea eb ta tb = ⊎_elim
      (λ (x : (i ≡ id) × (w ≡ a)). ⊎_elim (λ (y : (j ≡ id) × (w ≡ b)). x.0 ∙ sym y.0)
      (λ (y : (j ≢ id) × (get_elem? views j ≡ some b)). absurd (fresh j t b y.0 y.1 tb (ap (λ (z : View B M E). z.turn) x.1 ∙ ta))) (at_set views id j w b eb))
      (λ (x : (i ≢ id) × (get_elem? views i ≡ some a)). ⊎_elim (λ (y : (j ≡ id) × (w ≡ b)). absurd (fresh i t a x.0 x.1 ta (ap (λ (z : View B M E). z.turn) y.1 ∙ tb)))
      (λ (y : (j ≢ id) × (get_elem? views j ≡ some b)). old i j t a b x.1 y.1 ta tb) (at_set views id j w b eb))
      (at_set views id i w a ea)

  pub apart_same : (views : List (View B M E)) (id : ℕ) (v w : View B M E) → get_elem? views id ≡ some v → w.turn ≡ v.turn → Apart views → Apart (set views id w)
  apart_same views id v w at same old = apart_set views id w (λ j t u other e tu tw. other (old j id t u v e at tu (sym same ∙ tw))) old

  pub apart_none : (views : List (View B M E)) (id : ℕ) (w : View B M E) → w.turn ≡ None → Apart views → Apart (set views id w)
  apart_none views id w left old = apart_set views id w (λ j t u other e tu tw. none_some t (sym left ∙ tw)) old

  held_same : (views : List (View B M E)) (id : ℕ) (v w : View B M E) → get_elem? views id ≡ some v → w.holds ≡ v.holds → Held views → Held (set views id w)
  held_same views id v w at same h = dite (ℕ_discrete h.0 id)
      (λ is. (id, w, set_here views id w (at_less views id v at), same ∙ ap (λ (z : View B M E). z.holds) (some-injective v h.1 (sym at ∙ ap (λ (i : ℕ). get_elem? views i) (sym is) ∙ h.2)) ∙ h.3))
      (λ isnt. (h.0, h.1, set_else views id h.0 w isnt ∙ h.2, h.3))

  -- the object lies where it lay
  pub slot_same : (homes : List _) (views : List (View B M E)) (now : M) (id : ℕ) (v w : View B M E) → get_elem? views id ≡ some v → w.holds ≡ v.holds → Slotted homes views now → Slotted homes (set views id w) now
  slot_same homes views now id v w at same (inl h) =
      inl (h.0, each_set (λ i u. u.holds ≡ false) (λ i u. u.holds ≡ false) views id w (same ∙ h.1 id v at) (λ j u other e old. old) h.1)
  slot_same homes views now id v w at same (inr h) = inr (h.0, held_same views id v w at same h.1)

push_at : {A : Type 0} (P : ℕ → A → Type 0) (l : List A) (a : A) → P (length l) a → ((i : ℕ) (x : A) → get_elem? l i ≡ some x → P i x) → (i : ℕ) (x : A) → get_elem? (l ++ a ∷ []) i ≡ some x → P i x
push_at P [] a last old zero x e = subst (λ y. P 0 y) (some-injective a x e) last
push_at P [] a last old (suc i) x e = absurd (some-ne-none x (sym e))
push_at P (y ∷ ys) a last old zero x e = old 0 x e
push_at P (y ∷ ys) a last old (suc i) x e = push_at (λ j. P (suc j)) ys a last (λ j z p. old (suc j) z p) i x e

-- what holds of each element, where one comes last or first
pub each_push : {A : Type 0} (P : ℕ → A → Type 0) (l l' : List A) (a : A) → l' ≡ l ++ a ∷ [] → P (length l) a → ((i : ℕ) (x : A) → get_elem? l i ≡ some x → P i x) → (i : ℕ) (x : A) → get_elem? l' i ≡ some x → P i x
each_push P l l' a is last old i x e = push_at P l a last old i x (ap (λ (k : List _). get_elem? k i) (sym is) ∙ e)

pub each_cons : {A : Type 0} (P : ℕ → A → Type 0) (l l' : List A) (a : A) → l' ≡ a ∷ l → P 0 a → ((i : ℕ) (x : A) → get_elem? l i ≡ some x → P (i + 1) x) → (i : ℕ) (x : A) → get_elem? l' i ≡ some x → P i x
each_cons P l l' a is first old zero x e = subst (λ y. P 0 y) (some-injective a x (ap (λ (k : List _). get_elem? k 0) (sym is) ∙ e)) first
each_cons P l l' a is first old (suc i) x e = subst (λ j. P j x) (let g : i + 1 ≡ suc i = omega arith in g) (old i x (ap (λ (k : List _). get_elem? k (suc i)) (sym is) ∙ e))
