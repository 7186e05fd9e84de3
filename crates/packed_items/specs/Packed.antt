-- What is found over the leaves of an item, in sets of classes and readings, and what that rests on.
use Rattle.std.specs.Prelude.{ℕ, ◌<◌, ◌≤◌, List, length, map}
use Rattle.chart_model.specs.Calculus.{Calculus}
use Rattle.chart_model.specs.At.{At}
use Rattle.chart_model.specs.Chart.{Chart, Leaf, Limits}
use Rattle.chart_model.specs.Limits.{IsLimitAnswer, UnaryChain, Edges, Within, IsClassCount}
use Rattle.chart_core.specs.declared.Limits as declared
use Rattle.chart_core.specs.Kept.{limits_seen}
use Rattle.derivation.specs.Views.{derivation_of}
use Rattle.tree_model.specs.Forest.{Agree, AreApart, IsForest}
use Rattle.tree_model.specs.Readings.{Wholes, AreAllAccepted, AreMoreThan}
use Rattle.packed_items.specs.declared.Found.{Found}
use Rattle.packed_items.specs.declared.Found.TheVariants as found

-- a chart that is complete over the leaves and holds their trees, within the limits
pub record IsPackedWithin {M C F : Type 0} (k : Calculus M C) (full : ℕ → List F → F → Type 0) (agrees : M → F → Type 0) (limits : Limits) (leaves : List (Leaf M C)) : Type 0 where
  pub chart_is : Chart M C
  pub forest : IsForest k full agrees limits leaves chart_is
  pub within : IsLimitAnswer k limits leaves Within

module _ {M C F V : Type 0} (k : Calculus M C) (full : ℕ → List F → F → Type 0) (agrees : M → F → Type 0) (w : Wholes V C) where
  -- the full structures belong to the grammar and these leaves: they agree with the shapes, leaves and rules are told apart,
  -- each leaf has a name that may be asked for, and each rule is there with its number of daughters
  pub record Fit (named : ℕ → Type 0) (ruled : ℕ → ℕ → Type 0) (leaves : List (Leaf M C)) : Type 0 where
    pub agree : Agree k full agrees w leaves
    pub apart : AreApart k w leaves
    pub names : (l : ℕ) (leaf : Leaf M C) → At leaves l leaf → named leaf.name
    pub rules : (rule : ℕ) → rule < k.rules → ruled rule (k.arity rule)

  -- the first limit that is broken: that on chains or on classes, at the least size, then that on readings; or else the number
  -- of packed classes, and exactly the readings that are asked for, in order
  abbrev pub IsFound : declared.Limits → List (Leaf M C) → Found → Type 0
  IsFound limits leaves (found.UnaryChain) = (n : ℕ) × IsLimitAnswer k (limits_seen limits) leaves (UnaryChain n)
  IsFound limits leaves (found.Edges) = (n : ℕ) × IsLimitAnswer k (limits_seen limits) leaves (Edges n)
  IsFound limits leaves (found.Readings) = IsPackedWithin k full agrees (limits_seen limits) leaves × AreMoreThan k w (limits_seen limits) leaves limits.readings
  IsFound limits leaves (found.Trees classes trees) =
      IsPackedWithin k full agrees (limits_seen limits) leaves × IsClassCount k (limits_seen limits) leaves classes
      × AreAllAccepted k w (limits_seen limits) leaves (map derivation_of trees.items) × (length trees.items ≤ limits.readings)
