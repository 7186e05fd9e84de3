-- The first place at which something that can be told holds.
use Rattle.std.proofs.Common.{ℕ, zero, suc, ◌≡◌, ◌<◌, ◌≤◌, ◌⊎◌, inl, inr, arith, subst, sym}
use Rattle.std.proofs.lemmas.Bool.{cases_lt}

-- it holds at a first place below the bound, or nowhere below it
abbrev pub FirstBelow : (ℕ → Type 0) → ℕ → Type 0
FirstBelow P n = ((k : ℕ) × (k < n) × P k × ((j : ℕ) → j < k → P j → ⊥)) ⊎ ((j : ℕ) → j < n → P j → ⊥)

step : (P : ℕ → Type 0) (n : ℕ) → FirstBelow P n → (P n ⊎ (P n → ⊥)) → FirstBelow P (suc n)
step P n (inl r) d = inl (r.0, omega (arith, r.1), r.2, r.3)
step P n (inr none) (inl p) = inl (n, omega arith, p, none)
step P n (inr none) (inr isnt) = inr (λ j h p. go j h p (cases_lt j n))
  where
    go : (j : ℕ) → j < suc n → P j → (j < n) ⊎ (n ≤ j) → ⊥
    go j h p (inl l) = none j l p
    go j h p (inr l) = let same : j ≡ n = omega (arith, h, l) in isnt (subst P same p)

pub first_below : (P : ℕ → Type 0) → ((k : ℕ) → P k ⊎ (P k → ⊥)) → (n : ℕ) → FirstBelow P n
first_below P told zero = inr (λ j h p. absurd (omega (arith, h)))
first_below P told (suc n) = step P n (first_below P told n) (told n)
