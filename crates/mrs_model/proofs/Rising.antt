-- Names in byte order.
use Rattle.std.proofs.Common.{◌≡◌, ℕ, zero, suc, ◌+◌, ◌-◌, ◌<◌, ◌≤◌, ◌⊎◌, inl, inr, refl, List, [], get_or, length, subst, arith}
use Rattle.std.specs.declared.cmp.Ordering.TheVariants.{Less}
use Rattle.std.specs.Cmp.Lexicographic.{slice_cmp}
use Rattle.std.specs.Ordering.{nat_cmp}
use Rattle.mrs_model.specs.Valid.{Rise}

-- the names rise as far as the k-th
abbrev pub RiseTo : List (List ℕ) → ℕ → Type 0
RiseTo names k = (j : ℕ) → j + 1 < k → slice_cmp nat_cmp (get_or names j []) (get_or names (j + 1) []) ≡ Less

at_same : (names : List (List ℕ)) (i j k : ℕ) (a b : List ℕ) → i ≡ j → j + 1 ≡ k → get_or names i [] ≡ a → get_or names k [] ≡ b → slice_cmp nat_cmp a b ≡ Less
    → slice_cmp nat_cmp (get_or names j []) (get_or names (j + 1) []) ≡ Less
at_same names i j k a b e f p q r = rw (f, q, ← e, p) r

last_or : (j k : ℕ) → j + 1 < k + 1 → (j + 1 < k) ⊎ (j + 1 ≡ k)
last_or zero zero l = absurd (omega arith)
last_or zero (suc zero) l = inr refl
last_or zero (suc (suc k)) l = inl (omega arith)
last_or (suc j) zero l = absurd (omega arith)
last_or (suc j) (suc k) l = elim (last_or j k (omega arith)) [ inl m ↦ inl (omega arith) | inr e ↦ inr (omega arith) ]

pub rise_more : (names : List (List ℕ)) (k : ℕ) (a b : List ℕ) → 1 ≤ k → RiseTo names k → get_or names (k - 1) [] ≡ a → get_or names k [] ≡ b → slice_cmp nat_cmp a b ≡ Less → RiseTo names (k + 1)
rise_more names k a b le h p q r = λ j l. elim (last_or j k l) [
  | inl m ↦ h j m
  | inr e ↦ at_same names (k - 1) j k a b (omega arith) e p q r
]

pub fall_at : (names : List (List ℕ)) (k : ℕ) (a b : List ℕ) → 1 ≤ k → k < length names → get_or names (k - 1) [] ≡ a → get_or names k [] ≡ b → Rise names → slice_cmp nat_cmp a b ≡ Less
fall_at names k a b le l p q h =
    let e : k - 1 + 1 ≡ k = omega arith in
    let r = h (k - 1) (omega arith) in
    rw (← p, ← q) (subst (λ (n : ℕ). slice_cmp nat_cmp (get_or names (k - 1) []) (get_or names n []) ≡ Less) e r)
