-- The nearest of the types above one, taken in falling order.
use Rattle.std.proofs.Common.{ℕ, ◌≡◌, ◌≢◌, ◌==◌, ◌≤◌, ◌<◌, ◌+◌, ◌-◌, ◌*◌, ◌/◌, ◌⊎◌, inl, inr, true, false, List, sym, ◌∙◌, ap, subst, arith}
use Rattle.std.proofs.lemmas.Bool.{cases_lt}
use Rattle.type_hierarchy.specs.Bits.{has_bit}
use Rattle.type_hierarchy.specs.Table.{TypeTable, completed_count, is_below}
use Rattle.type_hierarchy.specs.Laws.{HasTypeLaws}
use Rattle.type_hierarchy.specs.Supertypes.{is_strictly_below}
use Rattle.type_hierarchy.specs.Inner.Nearest.{IsNearest, HasNearest, IsTaken, is_left, is_taken}
use Rattle.type_hierarchy.proofs.SetLemmas.{differ, bool_cases, and_right, eq_of, eq_true}

-- the work down to x
pub record IsReaching (types : TypeTable) (t : ℕ) (nearest passed : List ℕ) (x : ℕ) : Type 0 where
  pub passed_are : (b : ℕ) → b < completed_count types → has_bit passed b ≡ true → IsNearest types t nearest b
  pub reached : (u : ℕ) → x ≤ u → u < completed_count types → is_strictly_below types t u ≡ true → IsNearest types t nearest u

pub reaching_starts : (types : TypeTable) (t : ℕ) (nearest passed : List ℕ) (x : ℕ) → x ≡ completed_count types → ((b : ℕ) → has_bit passed b ≡ false) → IsReaching types t nearest passed x
reaching_starts types t nearest passed x e none = record {
  passed_are = λ b l m. absurd (differ _ m (none b));
  reached = λ u low h s. absurd (omega arith);
}

-- a word of which what may be above t was passed over
pub reaching_passed : (types : TypeTable) (t : ℕ) (candidates nearest passed : List ℕ) (x word : ℕ) → 0 < x → word ≡ (x - 1) / 64 → ((b : ℕ) → b < completed_count types → is_below types t b ≡ true → has_bit candidates b ≡ true) →
    ((y : ℕ) → y / 64 ≡ word → has_bit candidates y ≡ true → has_bit passed y ≡ true) → IsReaching types t nearest passed x → IsReaching types t nearest passed (64 * word)
reaching_passed types t candidates nearest passed x word some is may sub r = record {
  passed_are = r.passed_are;
  reached = λ u low h s. go u low h s (cases_lt u x);
}
  where
    go : (u : ℕ) → 64 * word ≤ u → u < completed_count types → is_strictly_below types t u ≡ true → (u < x) ⊎ (x ≤ u) → IsNearest types t nearest u
    go u low h s (inr l) = r.reached u l h s
    go u low h s (inl l) = r.passed_are u h (sub u (omega arith) (may u h (and_right _ _ s)))

more_nearest : (types : TypeTable) (t : ℕ) (nearest nearest' : List ℕ) (u : ℕ) → ((b : ℕ) → has_bit nearest b ≡ true → has_bit nearest' b ≡ true) → IsNearest types t nearest u → IsNearest types t nearest' u
more_nearest types t nearest nearest' u more n = record { nearest = n.nearest; within = n.within; is_in = more n.nearest n.is_in; above = n.above; below = n.below }

-- one type more
pub reaching_next : (types : TypeTable) (t : ℕ) (nearest nearest' passed passed' : List ℕ) (x x' : ℕ) → HasTypeLaws types → x ≡ x' + 1 → x' < completed_count types → IsTaken types t x' nearest nearest' passed passed' →
    IsReaching types t nearest passed x → IsReaching types t nearest' passed' x'
reaching_next types t nearest nearest' passed passed' x x' laws e x_in (is_left f same same') r =
    subst (λ q. IsReaching types t q passed' x') (sym same) (subst (λ q. IsReaching types t nearest q x') (sym same') (record {
      passed_are = r.passed_are;
      reached = λ u low h s. go u low h s (cases_lt x' u);
    }))
  where
    go : (u : ℕ) → x' ≤ u → u < completed_count types → is_strictly_below types t u ≡ true → (x' < u) ⊎ (u ≤ x') → IsNearest types t nearest u
    go u low h s (inl l) = r.reached u (omega arith) h s
    go u low h s (inr l) = here (bool_cases (has_bit passed u))
      where
        same_u : u ≡ x'
        same_u = omega arith

        here : (has_bit passed u ≡ true) ⊎ (has_bit passed u ≡ false) → IsNearest types t nearest u
        here (inl m) = r.passed_are u h m
        here (inr m) = absurd (differ _ s (ap (is_strictly_below types t) same_u ∙ f (ap (has_bit passed) (sym same_u) ∙ m)))
reaching_next types t nearest nearest' passed passed' x x' laws e x_in (is_taken s m more p) r = record {
  passed_are = λ b h q. go b h (p.added b h q);
  reached = λ u low h k. reach u low h k (cases_lt x' u);
}
  where
    mine : (u : ℕ) → is_below types x' u ≡ true → IsNearest types t nearest' u
    mine u b = record { nearest = x'; within = x_in; is_in = m; above = s; below = b }

    go : (b : ℕ) → b < completed_count types → (has_bit passed b ≡ true) ⊎ (is_below types x' b ≡ true) → IsNearest types t nearest' b
    go b h (inl q) = more_nearest types t nearest nearest' b more (r.passed_are b h q)
    go b h (inr q) = mine b q

    reach : (u : ℕ) → x' ≤ u → u < completed_count types → is_strictly_below types t u ≡ true → (x' < u) ⊎ (u ≤ x') → IsNearest types t nearest' u
    reach u low h k (inl l) = more_nearest types t nearest nearest' u more (r.reached u (omega arith) h k)
    reach u low h k (inr l) = let same_u : x' ≡ u = omega arith in mine u (ap (is_below types x') (sym same_u) ∙ laws.reflexive x')

pub reaching_ends : (types : TypeTable) (t : ℕ) (nearest passed : List ℕ) (x : ℕ) → x ≡ 0 → IsReaching types t nearest passed x → HasNearest types t nearest
reaching_ends types t nearest passed x e r u h s = r.reached u (omega arith) h s

pub mark_kept : (old new : List ℕ) (x : ℕ) → has_bit new x ≡ true → ((y : ℕ) → y ≢ x → has_bit new y ≡ has_bit old y) → (b : ℕ) → has_bit old b ≡ true → has_bit new b ≡ true
mark_kept old new x m others b e = go (bool_cases (b == x))
  where
    go : ((b == x) ≡ true) ⊎ ((b == x) ≡ false) → has_bit new b ≡ true
    go (inl f) = ap (has_bit new) (eq_of b x f) ∙ m
    go (inr f) = others b (λ same. differ _ (ap (λ z. z == x) same ∙ eq_true x) f) ∙ e
