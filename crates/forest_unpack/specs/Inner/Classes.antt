-- Trees counted by their full structures; only private clauses cite it.
use Rattle.std.specs.Prelude.{◌≡◌, ℕ, ◌≤◌, ◌+◌, All, Option, Some, None, List, [], map, slice_get, slice_set}
use Rattle.std.proofs.Common.{Vec, Global}
use Rattle.std.specs.Arc.{arc_value}
use Rattle.chart_core.specs.declared.Row.{Row}
use Rattle.chart_model.specs.Chart as chart
use Rattle.tree_model.specs.Counts as counts
use Rattle.tree_model.proofs.Tallies.{Tallied}
use Rattle.tree_model.specs.Readings.{Wholes}
use Rattle.tree_model.specs.Lists as model
use Rattle.forest_unpack.specs.declared.tallies.Class.{Class}
use Rattle.forest_unpack.specs.Groups.{IsTold}
use Rattle.forest_unpack.specs.Inner.Memos.{IsNumbered, IsReachedItem}

module _ {X T C W : Type 0} where
  -- the class at this place has this number
  pub record IsAt (made : List (Class X T C W)) (place number : ℕ) : Type 0 where
    pub class : Class X T C W
    pub at : slice_get made place ≡ Some class
    pub same : class.item.number ≡ number

  -- more trees were counted to the class at this place
  pub record IsRaised (place times : ℕ) (old new : List (Class X T C W)) : Type 0 where
    pub class : Class X T C W
    pub at : slice_get old place ≡ Some class
    pub sum : ℕ
    pub low : sum ≤ class.times + times
    pub is : new ≡ slice_set old place (record { item = class.item; times = sum })

  -- more trees were counted to the class of this number
  pub record IsMore (number times : ℕ) (old new : List (Class X T C W)) : Type 0 where
    pub place : ℕ
    pub at : IsAt old place number
    pub raised : IsRaised place times old new

  abbrev pub list_of : Option (Vec (Class X T C W) Global) → List (Class X T C W)
  list_of None = []
  list_of (Some made) = made.items

  -- the classes of a host
  abbrev pub listed : List (Vec (Class X T C W) Global) → ℕ → List (Class X T C W)
  listed table host = list_of (slice_get table host)

module _ {X T C W V : Type 0} (value : T → V) where
  abbrev pub class_of : Class X T C W → counts.Class V
  class_of class = record { full = value (arc_value class.item.full); times = class.times }

  abbrev pub classes_of : List (Class X T C W) → List (counts.Class V)
  classes_of made = map class_of made

  -- the classes of a host, in plain values
  abbrev pub classes_at : List (Vec (Class X T C W) Global) → ℕ → List (counts.Class V)
  classes_at table host = classes_of (listed table host)

  module _ (w : Wholes V C) where
    -- what a rule makes of daughters of these full structures was counted, for as many trees or fewer as they can be taken in ways
    abbrev pub CountsOf : ℕ → List V → ℕ → List (Class X T C W) → List (Class X T C W) → Type 0
    CountsOf rule fulls times old new = (picked : List (counts.Class V)) → counts.fulls_of picked ≡ fulls → times ≤ counts.ways picked → counts.Counts w rule picked (classes_of old) (classes_of new)

    -- the same with one of each further list
    abbrev pub CountsAllOf : ℕ → List V → ℕ → List (List (counts.Class V)) → List (Class X T C W) → List (Class X T C W) → Type 0
    CountsAllOf rule fulls times rest old new = (picked : List (counts.Class V)) → counts.fulls_of picked ≡ fulls → times ≤ counts.ways picked → counts.CountsAll w rule picked rest (classes_of old) (classes_of new)

  module _ (w : Wholes V C) (named : ℕ → Type 0) (known : List V) where
    -- the class's item has its number, and is of a leaf or a phrase
    abbrev pub IsFit : Class X T C W → Type 0
    IsFit class = IsNumbered value known class.item × IsReachedItem value w named class.item

    -- so it is in each list
    abbrev pub AreFit : List (Vec (Class X T C W) Global) → Type 0
    AreFit table = (h : ℕ) → All IsFit (listed table h)

  -- these were counted by the rows of a host's group
  pub record IsCounting {Y S D U B : Type 0} (w : Wholes V C) (rows : List (Row Y S D U B)) (table : List (Vec (Class X T C W) Global)) (host : ℕ) (made : List (Class X T C W)) : Type 0 where
    pub told : List model.GroupRow
    pub is : IsTold rows host told
    pub counted : counts.CountsRows w (classes_at table) told [] (classes_of made)

-- what was counted of each host are trees of its group that differ, so many of each full structure
abbrev pub AreAllCounted : {X T C W V M : Type 0} → (T → V) → Wholes V C → List (chart.Leaf M C) → chart.Chart M C → List (Vec (Class X T C W) Global) → Type 0
AreAllCounted value w leaves ch table = (h : ℕ) → Tallied (classes_at value table h) (model.IsIn w leaves ch h)

-- what is told of groups is so of the chart
abbrev pub AreToldGroups : {M C X T W B : Type 0} → List (chart.Leaf M C) → chart.Chart M C → List (Row X T C W B) → Type 0
AreToldGroups leaves ch rows = (h : ℕ) (told : List model.GroupRow) → IsTold rows h told → model.IsToldGroup leaves ch h told
