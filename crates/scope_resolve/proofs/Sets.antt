-- Sets of open holes, bit by bit.
use Rattle.std.proofs.Common.{ℕ, zero, suc, ◌≡◌, ◌≢◌, ◌<◌, ◌*◌, ◌%◌, ◌^◌, ◌==◌, ◌&&◌, ◌||◌, ◌⊎◌, inl, inr, ◌∙◌, Bool, true, false, min, max, bit_and, bit_or, refl, sym, ap, arith, lit<}
use Rattle.std.specs.Prelude.{◌↔◌, IsTrue, nat_eq}
use Rattle.std.specs.Int.{bit_at, w64}
use Rattle.std.proofs.Math.Nat.{min-le_right, min-eq_left}
use Rattle.std.proofs.lemmas.Bool.{eq-eqb, eqb-true}
use Rattle.std.proofs.lemmas.Nat.Bits.{bit_at_and, bit_at_or, bit_at-lt, bit_at-zero, bit_at_ones, bit_at_set_same, bit_at_set_other, same_from_bits_below}
use Rattle.scope_resolve.specs.declared.hole_set.HoleSet.{HoleSet}
use Rattle.scope_resolve.specs.Inner.Masks.{seat, has, every}

seat_fits : (place : ℕ) → seat place < 64
seat_fits place = let l = min-le_right place 63 in omega (arith, l)

seat_below : (place : ℕ) → place < 64 → seat place ≡ place
seat_below place l = min-eq_left (omega (arith, l))

small_cases : (p : ℕ) → p < 2 → (p ≡ 0) ⊎ (p ≡ 1)
small_cases zero h = inl refl
small_cases (suc zero) h = inr refl
small_cases (suc (suc p)) h = absurd (omega arith)

max_is : (p q : ℕ) → p < 2 → q < 2 → (max p q == 1) ≡ ((p == 1) || (q == 1))
max_is p q h k = go (small_cases p h) (small_cases q k)
  where
    go : (p ≡ 0) ⊎ (p ≡ 1) → (q ≡ 0) ⊎ (q ≡ 1) → (max p q == 1) ≡ ((p == 1) || (q == 1))
    go (inl a) (inl b) = rw (a, b) refl
    go (inl a) (inr b) = rw (a, b) refl
    go (inr a) (inl b) = rw (a, b) refl
    go (inr a) (inr b) = rw (a, b) refl

min_is : (p q : ℕ) → p < 2 → q < 2 → (min p q == 1) ≡ ((p == 1) && (q == 1))
min_is p q h k = go (small_cases p h) (small_cases q k)
  where
    go : (p ≡ 0) ⊎ (p ≡ 1) → (q ≡ 0) ⊎ (q ≡ 1) → (min p q == 1) ≡ ((p == 1) && (q == 1))
    go (inl a) (inl b) = rw (a, b) refl
    go (inl a) (inr b) = rw (a, b) refl
    go (inr a) (inl b) = rw (a, b) refl
    go (inr a) (inr b) = rw (a, b) refl

zero_of : (p : ℕ) → p < 2 → (p == 1) ≡ false → p ≡ 0
zero_of p h e = go (small_cases p h)
  where
    go : (p ≡ 0) ⊎ (p ≡ 1) → p ≡ 0
    go (inl a) = a
    go (inr a) = absurd (bad (rw a at e))
      where
        bad : true ≡ false → ⊥
        bad f = cc

pub every_has : (place : ℕ) → has every place ≡ true
every_has place = ap (λ w. w == 1) (bit_at_ones 64 (seat place) (seat_fits place))

pub joined : (a b : HoleSet) (place : ℕ) → has (record { bits = bit_or a.bits b.bits }) place ≡ (has a place || has b place)
joined a b place = ap (λ w. w == 1) (bit_at_or a.bits b.bits (seat place)) ∙ max_is _ _ (bit_at-lt a.bits (seat place)) (bit_at-lt b.bits (seat place))

pub met : (a b : HoleSet) (place : ℕ) → has (record { bits = bit_and a.bits b.bits }) place ≡ (has a place && has b place)
met a b place = ap (λ w. w == 1) (bit_at_and a.bits b.bits (seat place)) ∙ min_is _ _ (bit_at-lt a.bits (seat place)) (bit_at-lt b.bits (seat place))

pub empty : (a : HoleSet) → a.bits < 2 ^ 64 → IsTrue (nat_eq a.bits 0) ↔ ((place : ℕ) → has a place ≡ false)
empty a fits = (λ y. λ place. ap (λ w. bit_at w (seat place) == 1) (eqb-true a.bits 0 y) ∙ ap (λ w. w == 1) (bit_at-zero (seat place)), λ none. eq-eqb a.bits 0 (no_bit none))
  where
    no_bit : ((place : ℕ) → has a place ≡ false) → a.bits ≡ 0
    no_bit none = same_from_bits_below 64 a.bits 0 fits (lit< tt)
        (λ i l. zero_of (bit_at a.bits i) (bit_at-lt a.bits i) (ap (λ s. bit_at a.bits s == 1) (sym (seat_below i l)) ∙ none i) ∙ sym (bit_at-zero i))

-- one more
module _ (a : HoleSet) (place k : ℕ) (is : k ≡ seat place) where
  abbrev pub more : HoleSet
  more = record { bits = bit_or a.bits (1 * 2 ^ k % 18446744073709551616) }

  k_fits : k < 64
  k_fits = let l = seat_fits place in omega (arith, l, is)

  pub more_has : has more place ≡ true
  more_has = ap (λ s. bit_at more.bits s == 1) (sym is) ∙ ap (λ w. w == 1) (bit_at_set_same w64 a.bits k k_fits)

  pub more_others : (at : ℕ) → seat at ≢ seat place → has more at ≡ has a at
  more_others at apart = ap (λ w. w == 1) (bit_at_set_other w64 a.bits k k_fits (seat at) (λ e. apart (e ∙ is)))

  pub more_kept : (at : ℕ) → has a at ≡ true → has more at ≡ true
  more_kept at h = joined a (record { bits = 1 * 2 ^ k % 18446744073709551616 }) at ∙ ap (λ (b : Bool). b || has (record { bits = 1 * 2 ^ k % 18446744073709551616 }) at) h
