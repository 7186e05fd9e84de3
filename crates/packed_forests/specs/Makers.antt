-- What makes the members of a packed class: leaves, and rules over packed classes (Oepen and Carroll 2000: a packed forest).
use Rattle.std.specs.Prelude.{ℕ, ◌≡◌, ◌<◌, true, Some, List, length}
use Rattle.chart_model.specs.Calculus.{Calculus}
use Rattle.chart_model.specs.At.{At}
use Rattle.chart_model.specs.Chart.{Leaf, Limits}
use Rattle.chart_model.specs.Classes.{Class, class_covers, class_shapes, class_level}
use Rattle.chart_model.specs.Limits.{IsLowClass}

module _ {M C : Type 0} (k : Calculus M C) (limits : Limits) (leaves : List (Leaf M C)) where
  -- the class has the cover of the leaf of this number and level 0, and subsumes it
  pub record IsOwnLeaf (c : Class M C) (l : ℕ) : Type 0 where
    pub leaf : Leaf M C
    pub at : At leaves l leaf
    pub cover : leaf.cover ≡ c.cover
    pub level : c.level ≡ 0
    pub over : k.over c.shape leaf.shape ≡ true

  -- each of these is a packed class
  abbrev pub AreLowClasses : List (Class M C) → Type 0
  AreLowClasses ds = (j : ℕ) (d : Class M C) → At ds j d → IsLowClass k limits leaves d

  -- the class has the cover and the level of the mother of these packed classes under the rule, and subsumes her
  pub record IsOwnTuple (c : Class M C) (rule : ℕ) (ds : List (Class M C)) : Type 0 where
    pub rule_is : rule < k.rules
    pub whole : length ds ≡ k.arity rule
    pub low : AreLowClasses ds
    pub cover : k.covers rule (class_covers ds) ≡ Some c.cover
    pub level : c.level ≡ class_level ds
    pub shape : M
    pub mother : k.mother rule (class_shapes ds) shape
    pub over : k.over c.shape shape ≡ true
