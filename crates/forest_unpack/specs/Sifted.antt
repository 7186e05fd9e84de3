-- Lists that leave something out.
use Rattle.std.specs.Prelude.{◌≡◌, ◌⊎◌, ℕ, Bool, Option, List, [], map}
use Rattle.std.proofs.Common.{Vec, Global}
use Rattle.chart_core.specs.declared.Row.{Row}
use Rattle.tree_model.specs.Readings.{Wholes}
use Rattle.tree_model.specs.Lists as model
use Rattle.forest_unpack.specs.declared.counted.CountedTree.{CountedTree}
use Rattle.forest_unpack.specs.declared.item.Item.{Item}
use Rattle.forest_unpack.specs.declared.sifting.LeftOut.{LeftOut}
use Rattle.forest_unpack.specs.declared.sifting.LeftOut.TheVariants as lefts
use Rattle.forest_unpack.specs.Items.{list_at, IsListed}
use Rattle.forest_unpack.specs.Plans.{IsGathered}

-- a tree with this full structure may lack in these: none may, or one may whose full structure is there
abbrev pub MayLack : {V : Type 0} → LeftOut → List (model.Item V) → V → Type 0
MayLack lefts.Nothing items v = ⊥
MayLack lefts.Repeats items v = model.Has v (map (λ item. item.full) items)

-- some of all items: those that may lack aside, all of them
pub record IsSifted {V : Type 0} (left : LeftOut) (all items : List (model.Item V)) : Type 0 where
  pub each : (item : model.Item V) → model.Has item items → model.Has item all
  pub others : (item : model.Item V) → model.Has item all → model.Has item items ⊎ MayLack left items item.full
  pub differ : model.AllDiffer (map (λ item. item.tree) all) → model.AllDiffer (map (λ item. item.tree) items)

-- one of these has this number
pub record IsThere {X T C W : Type 0} (items : List (Item X T C W)) (number : ℕ) : Type 0 where
  pub one : Item X T C W
  pub has : model.Has one items
  pub same : one.number ≡ number

-- what was kept of whole lists is all that is asked for
abbrev pub AreEnough : LeftOut → List CountedTree → Type 0
AreEnough lefts.Nothing kept = Unit {0}
AreEnough lefts.Repeats kept = kept ≡ []

-- what is left of a list that was made from those of the daughters
pub record IsLeft {X T C W V Y S D U B : Type 0} (value : T → V) (w : Wholes V C) (left : LeftOut) (cut : Bool) (made : List (Row Y S D U B)) (table : List (Option (Vec (Item X T C W) Global))) (host : ℕ) (items : List (model.Item V)) : Type 0 where
  pub all : List (model.Item V)
  pub gathered : IsGathered value w cut made table host all
  pub sifted : IsSifted left all items

-- each list that was made is so
abbrev pub AreGathered : {X T C W V Y S D U B : Type 0} → (T → V) → Wholes V C → LeftOut → Bool → List (Row Y S D U B) → List (Option (Vec (Item X T C W) Global)) → Type 0
AreGathered value w left cut made table = (h : ℕ) → IsListed table h → IsLeft value w left cut made table h (list_at value table h)
