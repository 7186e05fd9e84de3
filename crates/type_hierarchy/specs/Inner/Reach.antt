-- Marks of what a type is below.
use Rattle.std.specs.Prelude.{ℕ, ◌≡◌, ◌<◌, ◌≤◌, ◌↔◌, Bool, true, false, Option, Some, None, List, [], ◌∷◌, ◌++◌, length, map, slice_index_or, slice_set, Vec}
use Rattle.std.specs.Global.{Global}
use Rattle.type_hierarchy.specs.Order.{IsBelow}

abbrev pub lists : List (Vec ℕ Global) → List (List ℕ)
lists vs = map (λ v. v.items) vs

-- each one that has no mark is marked and put on the stack
abbrev pub visited : List ℕ → List Bool × List ℕ → List Bool × List ℕ
visited [] s = s
visited (y ∷ ys) s =
    elim (slice_index_or s.0 y false) [ true ↦ visited ys s | false ↦ visited ys (slice_set s.0 y true, s.1 ++ y ∷ []) ]

pub record IsReach (parents : List (List ℕ)) (from : ℕ) (marks : List Bool) : Type 0 where
  pub one_each : length marks ≡ length parents
  pub told : (x : ℕ) → x < length parents → (slice_index_or marks x false ≡ true) ↔ IsBelow parents from x

-- the first number from `first` on that is below itself
abbrev pub IsFirstCycle : List (List ℕ) → ℕ → Option ℕ → Type 0
IsFirstCycle parents first None = (t : ℕ) → first ≤ t → t < length parents → IsBelow parents t t → ⊥
IsFirstCycle parents first (Some t) =
    (first ≤ t) × (t < length parents) × IsBelow parents t t × ((u : ℕ) → first ≤ u → u < t → IsBelow parents u u → ⊥)
