-- What an outcome that was found stands for.
use Rattle.std.specs.Prelude.{ℕ, map, length}
use Rattle.chart_model.specs.Calculus.{Calculus}
use Rattle.chart_model.specs.Tuples.{shapes_of, covers_of}
use Rattle.chart_model.specs.declared.covers.Tuple.{Tuple}
use Rattle.chart_model.specs.Chart as model
use Rattle.chart_core.specs.declared.Outcome.{Outcome}
use Rattle.chart_core.specs.declared.Outcome.TheVariants as outcomes

module _ {X T C W B M : Type 0} where
  abbrev pub outcome_seen : (T → M) → Outcome X T C W B → model.Outcome M C
  outcome_seen meaning (outcomes.Fails) = model.Fails
  outcome_seen meaning (outcomes.Fits c) = model.Fits c
  outcome_seen meaning (outcomes.Whole c s) = model.Makes c (meaning s)

  -- the outcome is right for these daughters
  abbrev pub IsRightFor : Calculus M C → (T → M) → ℕ → Tuple T C → Outcome X T C W B → Type 0
  IsRightFor k meaning rule parts o = model.IsRight k (record { edges = 0; unary = 0 }) rule (length (shapes_of parts)) (covers_of parts) (map meaning (shapes_of parts)) (outcome_seen meaning o)

module _ {X T C W B : Type 0} where
  -- the shape of a mother belongs
  abbrev pub ShapeBelongs : (T → Type 0) → Outcome X T C W B → Type 0
  ShapeBelongs belongs (outcomes.Fails) = Unit {0}
  ShapeBelongs belongs (outcomes.Fits c) = Unit {0}
  ShapeBelongs belongs (outcomes.Whole c s) = belongs s
