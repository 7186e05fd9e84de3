-- What the ordered pass answers.
use Rattle.std.specs.Prelude.{◌≡◌, ℕ, List}
use Rattle.chart_model.specs.Calculus.{Calculus}
use Rattle.chart_model.specs.Chart as model
use Rattle.chart_model.specs.Finished.{IsComplete}
use Rattle.chart_model.specs.Grown.{HoldsTrees}
use Rattle.chart_model.specs.Limits.{UnaryChain, Edges, Within, IsLimitAnswer}
use Rattle.chart_core.specs.declared.ChartFault.{ChartFault}
use Rattle.chart_core.specs.declared.ChartFault.TheVariants as faults
use Rattle.chart_core.specs.declared.ended.Finished.{Finished}
use Rattle.chart_core.specs.Grammar.{Grammar}
use Rattle.chart_core.specs.CoreView.{chart_of, leaves_of, limits_of}
use Rattle.chart_core.specs.Kept.{IsCore, core_of, pending_of}

-- a fault of the limits is their answer
abbrev pub IsPassFault : {M C : Type 0} → Calculus M C → model.Limits → List (model.Leaf M C) → ChartFault → Type 0
IsPassFault k limits leaves (faults.UnaryChain n) = IsLimitAnswer k limits leaves (UnaryChain n)
IsPassFault k limits leaves (faults.Edges n) = IsLimitAnswer k limits leaves (Edges n)
IsPassFault k limits leaves (faults.NoMemory) = Unit {0}

-- the chart is complete over these leaves within these limits, and holds their trees
pub record IsPassed {X T C W B M F : Type 0} (g : Grammar T M C) (full : ℕ → List F → F → Type 0) (agrees : M → F → Type 0) (limits : model.Limits) (leaves : List (model.Leaf M C)) (f : Finished X T C W B) : Type 0 where
  pub complete : IsComplete g.calculus limits leaves (chart_of g.meaning (core_of f))
  pub forest : HoldsTrees g.calculus full agrees limits leaves (chart_of g.meaning (core_of f))
  pub within : IsLimitAnswer g.calculus limits leaves Within
  pub core : IsCore g (core_of f)
  pub limits_same : limits_of (core_of f) ≡ limits
  pub leaves_same : leaves_of g.meaning (core_of f) ≡ leaves
  pub done : pending_of (core_of f) ≡ 0
