-- A decision is what a pass answers.
use Rattle.std.proofs.Common.{subst, Some, List}
use Rattle.chart_model.specs.Calculus.{Calculus}
use Rattle.chart_model.specs.Chart as model
use Rattle.chart_model.specs.Limits.{LimitAnswer, IsLimitAnswer}
use Rattle.chart_core.specs.declared.ChartFault.{ChartFault}
use Rattle.chart_core.specs.declared.ChartFault.TheVariants as faults
use Rattle.chart_core.specs.Counted.{IsAnswer}
use Rattle.chart_core.specs.Passed.{IsPassFault}

module _ {M C : Type 0} (k : Calculus M C) (limits : model.Limits) (leaves : List (model.Leaf M C)) where
  pub fault_is : (f : ChartFault) (a : LimitAnswer) → IsAnswer (Some f) a → IsLimitAnswer k limits leaves a → IsPassFault k limits leaves f
  fault_is (faults.UnaryChain n) a is h = subst (λ x. IsLimitAnswer k limits leaves x) is h
  fault_is (faults.Edges n) a is h = subst (λ x. IsLimitAnswer k limits leaves x) is h
  fault_is (faults.NoMemory) a is h = tt
