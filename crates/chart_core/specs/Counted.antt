-- The live hosts that are counted.
use Rattle.std.specs.Prelude.{◌≡◌, ℕ, ◌+◌, ◌<◌, ◌^◌, ◌&&◌, nat_le, Bool, true, is_some, is_none, if◌then◌else◌, Result, MatchResult, Option, Some, None, List, [], ◌∷◌}
use Rattle.chart_model.specs.Calculus.{Calculus}
use Rattle.chart_model.specs.Chart as model
use Rattle.chart_model.specs.Limits.{LimitAnswer, UnaryChain, Edges, Within, IsLimitAnswer, IsClassCount}
use Rattle.chart_model.specs.Below.{IsLeastSize, answer_by}
use Rattle.chart_core.specs.declared.Row.{Row}
use Rattle.chart_core.specs.declared.ChartFault.{ChartFault}
use Rattle.chart_core.specs.declared.ChartFault.TheVariants as faults

module _ {X T C W B : Type 0} (extent : C → ℕ) where
  -- the size of a host's cover fits
  abbrev pub IsSmall : Row X T C W B → Type 0
  IsSmall row = is_some row.shape ≡ true → extent row.cover < 2 ^ 32

  -- a live host of a level from `least` to `most` and of a size below n
  abbrev pub counts_row : ℕ → ℕ → ℕ → Row X T C W B → Bool
  counts_row least most n row = is_none row.into && (is_some row.shape && nat_le least row.level && nat_le row.level most && nat_le (extent row.cover + 1) n)

  -- the number of these
  abbrev pub tally : ℕ → ℕ → ℕ → List (Row X T C W B) → ℕ
  tally least most n [] = 0
  tally least most n (row ∷ rows) = if counts_row least most n row then tally least most n rows + 1 else tally least most n rows

-- the answer of the limits that a fault, or none, stands for
abbrev pub IsAnswer : Option ChartFault → LimitAnswer → Type 0
IsAnswer None a = a ≡ Within
IsAnswer (Some (faults.UnaryChain n)) a = a ≡ UnaryChain n
IsAnswer (Some (faults.Edges n)) a = a ≡ Edges n
IsAnswer (Some (faults.NoMemory)) a = ⊥

module _ {X T C W B : Type 0} (extent : C → ℕ) where
  -- it is the answer by the least sizes below the bound
  pub record IsFoundBelow (most unary below : ℕ) (rows : List (Row X T C W B)) (fault : Option ChartFault) : Type 0 where
    pub chain : Option ℕ
    pub edges : Option ℕ
    pub chain_is : IsLeastSize (λ n. tally extent (unary + 1) (unary + 1) n rows) 0 below chain
    pub edges_is : IsLeastSize (λ n. tally extent 0 unary n rows) most below edges
    pub answer : IsAnswer fault (answer_by chain edges)

-- the class count where neither limit is broken, else the answer of the limits
abbrev pub IsDecision : {M C : Type 0} → Calculus M C → model.Limits → List (model.Leaf M C) → Result ℕ ChartFault → Type 0
IsDecision k limits leaves result =
    MatchResult result
    (λ h. IsLimitAnswer k limits leaves Within × IsClassCount k limits leaves h)
    (λ f. (a : LimitAnswer) × IsAnswer (Some f) a × IsLimitAnswer k limits leaves a)
