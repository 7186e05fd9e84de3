-- The seats are joined from the last to the first.
use Rattle.std.proofs.Common.{Bool, true, false, ◌||◌, inl, inr, ⊎_elim, ◌⊎◌, ◌≡◌, ℕ, zero, suc, ◌+◌, ◌<◌, ◌≤◌, List, [], ◌∷◌, ◌++◌, length, length-append, refl, sym, ap, ◌∙◌, subst, arith}
use mathlib.Core.Option.{some, some-injective}
use mathlib.Core.Logic.{dite}
use native.Mathlib.Decide.{ℕ_discrete}
use lib.ListN.{get_elem?}
use Rattle.shared_chart.specs.declared.held.LockSeat.{LockSeat}
use Rattle.atomic_table.proofs.Lists.{at_longer, at_last}
use Rattle.shared_chart.specs.Plays.{Sat, both}
use Rattle.shared_chart.specs.TurnSeats.{Sits, Has}
use Rattle.shared_chart.proofs.Views.{at_less}

module _ {A : Type 0} where
  at_after : (l m : List A) → get_elem? (l ++ m) (length l) ≡ get_elem? m 0
  at_after [] m = refl
  at_after (x ∷ xs) m = at_after xs m

  at_behind : (l m : List A) (i : ℕ) → get_elem? (l ++ m) (length l + i) ≡ get_elem? m i
  at_behind [] m i = ap (λ (j : ℕ). get_elem? m j) (let e : length {A = A} [] + i ≡ i = omega arith in e)
  at_behind (x ∷ xs) m i = ap (λ (j : ℕ). get_elem? (x ∷ (xs ++ m)) j) (let e : length (x ∷ xs) + i ≡ suc (length xs + i) = omega arith in e) ∙ at_behind xs m i

  pub the_last : (orig new rest : List A) (x : A) → orig ≡ (new ++ x ∷ []) ++ rest → get_elem? orig (length new) ≡ some x
  the_last orig new rest x is = ap (λ (l : List A). get_elem? l (length new)) is ∙ at_longer (new ++ x ∷ []) rest (length new) x (at_last new x (length new) refl)

  pub still_there : (orig new rest : List A) (i : ℕ) (c : A) → orig ≡ new ++ rest → get_elem? new i ≡ some c → get_elem? orig i ≡ some c
  still_there orig new rest i c is e = ap (λ (l : List A). get_elem? l i) is ∙ at_longer new rest i c e

  pub one_fewer : (orig items new rest : List A) (x : A) → orig ≡ items ++ rest → items ≡ new ++ x ∷ [] → orig ≡ (new ++ x ∷ []) ++ rest
  one_fewer orig items new rest x is was = is ∙ ap (λ (l : List A). l ++ rest) was

pos_of : (a : ℕ) → (a ≡ 0 → ⊥) → 0 < a
pos_of zero n = absurd (n refl)
pos_of (suc a) n = omega arith

either_true : (a b : Bool) → b ≡ true → (a || b) ≡ true
either_true true b e = refl
either_true false b e = e

some_set : (a b : ℕ) → 0 < a + b → (a ≡ 0 → ⊥) ⊎ (0 < b)
some_set zero b p = inr (omega arith)
some_set (suc a) b p = inl (λ e. absurd (omega arith))

module _ {B M E : Type 0} where
  has_itself : (k : ℕ) (me : Sat B M E) → Sits k me → Has me k me
  has_itself k me sits = record { claims = (0, ap (λ (l : List _). get_elem? l 0) sits.claims); seen = λ m y e. (m, e); saw = λ e. e }

  pub last_claims : (orig new : List (LockSeat B M E)) (x : LockSeat B M E) → orig ≡ new ++ x ∷ [] → x.number ≡ length new → (i : ℕ) (c : LockSeat B M E) → get_elem? orig i ≡ some c → length new ≤ i → Has x.chair.me i c.chair.me
  last_claims orig new x is sits i c e le =
      let at : get_elem? orig (length new) ≡ some x = ap (λ (l : List _). get_elem? l (length new)) is ∙ at_last new x (length new) refl in
      let lt : i < length orig = at_less orig i c e in let n : length orig ≡ length new + 1 = ap (λ (l : List _). length l) is ∙ length-append new (x ∷ []) in
      let same : i ≡ length new = omega arith in
      let xs : x ≡ c = some-injective x c (sym at ∙ ap (λ (j : ℕ). get_elem? orig j) (sym same) ∙ e) in
      subst (λ (z : ℕ × LockSeat B M E). Has x.chair.me z.0 z.1.chair.me) (λ k. (sym same k, xs k)) (has_itself (length new) x.chair.me (subst (λ n. Sits n x.chair.me) sits x.sits))

  -- what one of two joined seats has, both have
  left_has : (k : ℕ) (first x : Sat B M E) (other : Sat B M E) → Has first k other → Has (both first.0 x.0, first.1) k other
  left_has k first x other h = record {
    claims = (h.claims.0, at_longer first.0.claims x.0.claims h.claims.0 _ h.claims.1);
    seen = λ m y e. let g = h.seen m y e in (g.0, at_longer first.0.seen x.0.seen g.0 y g.1);
    saw = λ e. ap (λ (b : Bool). b || x.0.saw) (h.saw e);
  }

  right_has : (k : ℕ) (first x : Sat B M E) → Sits k x → Has (both first.0 x.0, first.1) k x
  right_has k first x sits = record {
    claims = (length first.0.claims, at_after first.0.claims x.0.claims ∙ ap (λ (l : List _). get_elem? l 0) sits.claims);
    seen = λ m y e. (length first.0.seen + m, at_behind first.0.seen x.0.seen m ∙ e);
    saw = λ e. either_true first.0.saw x.0.saw e;
  }

  pub more_claims : (orig new rest : List (LockSeat B M E)) (x : LockSeat B M E) (first me' : Sat B M E) → orig ≡ (new ++ x ∷ []) ++ rest → me' ≡ (both first.0 x.chair.me.0, first.1) → x.number ≡ length new
      → ((i : ℕ) (c : LockSeat B M E) → get_elem? orig i ≡ some c → length (new ++ x ∷ []) ≤ i → Has first i c.chair.me)
      → (i : ℕ) (c : LockSeat B M E) → get_elem? orig i ≡ some c → length new ≤ i → Has me' i c.chair.me
  more_claims orig new rest x first me' is joined sits old i c e le = subst (λ (m : Sat B M E). Has m i c.chair.me) (sym joined)
      (dite (ℕ_discrete i (length new))
      (λ same. let xs : x ≡ c = some-injective x c (sym (the_last orig new rest x is) ∙ ap (λ (j : ℕ). get_elem? orig j) (sym same) ∙ e) in
      subst (λ (z : ℕ × LockSeat B M E). Has (both first.0 x.chair.me.0, first.1) z.0 z.1.chair.me) (λ k. (sym same k, xs k)) (right_has (length new) first x.chair.me (subst (λ n. Sits n x.chair.me) sits x.sits)))
      (λ ne. left_has i first x.chair.me c.chair.me (old i c e (let a = length-append new (x ∷ []) in omega arith))))

  -- some seat among these set the mark
  abbrev pub IsSetIn : List (LockSeat B M E) → Type 0
  IsSetIn orig = (j : ℕ) × (d : LockSeat B M E) × (get_elem? orig j ≡ some d) × (0 < d.chair.me.0.set)

  pub set_last : (orig new : List (LockSeat B M E)) (x : LockSeat B M E) → orig ≡ new ++ x ∷ [] → 0 < x.chair.me.0.set → IsSetIn orig
  set_last orig new x is p = (length new, x, ap (λ (l : List _). get_elem? l (length new)) is ∙ at_last new x (length new) refl, p)

  pub set_more : (orig new rest : List (LockSeat B M E)) (x : LockSeat B M E) (first me' : Sat B M E) → orig ≡ (new ++ x ∷ []) ++ rest → me' ≡ (both first.0 x.chair.me.0, first.1) → (0 < first.0.set → IsSetIn orig) → 0 < me'.0.set → IsSetIn orig
  set_more orig new rest x first me' is joined old p =
      ⊎_elim (λ ne. old (pos_of first.0.set ne)) (λ q. (length new, x, the_last orig new rest x is, q)) (some_set first.0.set x.chair.me.0.set (subst (λ (m : Sat B M E). 0 < m.0.set) joined p))

pub some_there : {A : Type 0} (l : List A) (i : ℕ) → i < length l → (a : A) × (get_elem? l i ≡ some a)
some_there [] i h = absurd (omega arith)
some_there (x ∷ xs) zero h = (x, refl)
some_there (x ∷ xs) (suc i) h = some_there xs i (omega arith)
