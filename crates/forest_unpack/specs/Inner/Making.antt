-- Lists on their way; only private clauses cite it.
use Rattle.std.specs.Prelude.{◌≡◌, ℕ, ◌<◌, ◌≤◌, ◌+◌, ◌-◌, ◌*◌, Bool, true, Option, Some, None, All, List, [], ◌∷◌, length, map}
use Rattle.std.proofs.Common.{Vec, Global, take}
use Rattle.chart_core.specs.declared.Row.{Row}
use Rattle.tree_model.specs.Readings.{Wholes}
use Rattle.tree_model.specs.Lists as model
use Rattle.forest_unpack.specs.declared.item.Item.{Item}
use Rattle.forest_unpack.specs.declared.listing.Making.{Making}
use Rattle.forest_unpack.specs.declared.memo.Memo.{Memo}
use Rattle.forest_unpack.specs.Groups.{IsTold}
use Rattle.forest_unpack.specs.Items.{items_of, list_at, IsListed}
use Rattle.forest_unpack.specs.declared.sifting.LeftOut.{LeftOut}
use Rattle.forest_unpack.specs.Plans.{row_of, rank_at, GatherAll, Grows}
use Rattle.forest_unpack.specs.Sifted.{AreGathered}
use Rattle.forest_unpack.specs.Inner.Memos.{IsNumbered, StaysReady, known_in}

abbrev pub daughters_in : model.GroupRow → List ℕ
daughters_in (model.a_leaf name) = []
daughters_in (model.a_whole rule ds) = ds

module _ {X T C W : Type 0} where
  -- one of these hosts has no list
  pub record IsLacked (table : List (Option (Vec (Item X T C W) Global))) (d : ℕ) (hosts : List ℕ) : Type 0 where
    pub one : model.Has d hosts
    pub unlisted : IsListed table d → ⊥

  -- a host of a lower rank has no list
  pub record IsLower (hosts : ℕ) (ranks : List ℕ) (table : List (Option (Vec (Item X T C W) Global))) (host d : ℕ) : Type 0 where
    pub there : d < hosts
    pub lower : rank_at ranks d < rank_at ranks host
    pub unlisted : IsListed table d → ⊥

  -- the list of the host has all of its rows to go through
  pub record IsBegun {Y S D U B : Type 0} (rows : List (Row Y S D U B)) (host : ℕ) (list : Making X T C W) : Type 0 where
    pub host_is : list.host ≡ host
    pub told : IsTold rows host (map row_of list.group.items)
    pub next : list.next ≡ 0
    pub made : list.made.items ≡ []

  -- how many hosts have no list
  abbrev pub unlisted_in : List (Option (Vec (Item X T C W) Global)) → ℕ
  unlisted_in [] = 0
  unlisted_in (None ∷ table) = unlisted_in table + 1
  unlisted_in (Some made ∷ table) = unlisted_in table

  -- what is left to do, where no more than one list above `most` waits: it falls with each list that is made, and with each that has to wait
  abbrev pub left_of : ℕ → List (Option (Vec (Item X T C W) Global)) → List (Making X T C W) → ℕ
  left_of most table lists = unlisted_in table * (most + 2) - length lists

  -- the outermost list is that of this host; where no list is on its way, the host has one
  abbrev pub IsRoot : List (Option (Vec (Item X T C W) Global)) → ℕ → List (Making X T C W) → Type 0
  IsRoot table root [] = IsListed table root
  IsRoot table root (list ∷ lists) = list.host ≡ root

  -- all have lower ranks
  abbrev pub AreUnder : List ℕ → ℕ → List (Making X T C W) → Type 0
  AreUnder ranks rank [] = Unit {0}
  AreUnder ranks rank (list ∷ lists) = (rank_at ranks list.host < rank) × AreUnder ranks rank lists

module _ {X T C W V Y S D U B : Type 0} (value : T → V) (w : Wholes V C) (cut : Bool) (rows : List (Row Y S D U B)) (known : List V) (table : List (Option (Vec (Item X T C W) Global))) where
  -- the first rows of the host's group were gone through, and gave what is there; the host has no list yet
  pub record IsMaking (list : Making X T C W) : Type 0 where
    pub host : list.host < length rows
    pub told : IsTold rows list.host (map row_of list.group.items)
    pub gone : list.next ≤ length list.group.items
    pub gave : GatherAll w cut (list_at value table) (IsListed table) (take list.next (map row_of list.group.items)) (items_of value list.made.items)
    pub numbered : All (IsNumbered value known) list.made.items
    pub unlisted : IsListed table list.host → ⊥

  -- each waits for the one behind it, so ranks fall
  abbrev pub AreMaking : List ℕ → List (Making X T C W) → Type 0
  AreMaking ranks [] = Unit {0}
  AreMaking ranks (list ∷ lists) = IsMaking list × AreUnder ranks (rank_at ranks list.host) lists × AreMaking ranks lists

-- what one step leaves: a list was made, or one more has to wait
pub record Stepped {X T C W V Y S D U B : Type 0} (value : T → V) (w : Wholes V C) (left_out : LeftOut) (rows : List (Row Y S D U B)) (ranks : List ℕ) (before after : Bool) (old new : Memo X T C W) (table grown : List (Option (Vec (Item X T C W) Global))) (lists left : List (Making X T C W)) : Type 0 where
  pub grows : Grows value table grown
  pub ready : StaysReady value w old new grown
  pub cut : before ≡ true → after ≡ true
  pub gathered : AreGathered value w left_out after rows grown
  pub lists_are : AreMaking value w after rows (known_in value new) grown ranks left
  pub root : (root : ℕ) → IsRoot table root lists → IsRoot grown root left
  pub falls : (most : ℕ) → length lists ≤ most + 1 → left_of most grown left < left_of most table lists
