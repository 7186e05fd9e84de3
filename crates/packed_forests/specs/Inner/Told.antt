-- The class of a row, and the classes of the first rows; only private clauses cite it.
use Rattle.std.specs.Prelude.{◌≡◌, ℕ, ◌<◌, ◌==◌, ◌&&◌, Bool, true, false, Option, Some, None, is_some, List, slice_get}
use Rattle.chart_model.specs.Calculus.{Calculus}
use Rattle.chart_model.specs.At.{At}
use Rattle.chart_model.specs.Chart as model
use Rattle.chart_core.specs.declared.Row.{Row}
use Rattle.packed_forests.specs.declared.ClassRows.{ClassRows}
use Rattle.packed_forests.specs.Rows.{AreRising, AreMakerRows, hosts_of, makers_of}

module _ {X T C W B : Type 0} where
  -- there is such a row, and it has a shape
  abbrev pub HasShape : List (Row X T C W B) → ℕ → Type 0
  HasShape rows h = (row : Row X T C W B) × (slice_get rows h ≡ Some row) × (is_some row.shape ≡ true)

module _ {X T C W B M : Type 0} (k : Calculus M C) (meaning : T → M) where
  abbrev pub over_by : Row X T C W B → Row X T C W B → Option T → Option T → Bool
  over_by host row None o = false
  over_by host row (Some general) None = false
  over_by host row (Some general) (Some special) = k.same row.cover host.cover && (row.level == host.level) && k.over (meaning general) (meaning special)

  -- the second row has the cover and the level of the first, whose structure subsumes its own
  abbrev pub is_over : Row X T C W B → Row X T C W B → Bool
  is_over host row = over_by host row host.shape row.shape

  abbrev pub if_both : Option (Row X T C W B) → Option (Row X T C W B) → Bool
  if_both None o = false
  if_both (Some host) None = false
  if_both (Some host) (Some row) = is_over host row

  abbrev pub makes : List (Row X T C W B) → ℕ → ℕ → Bool
  makes rows h i = if_both (slice_get rows h) (slice_get rows i)

module _ {M C : Type 0} (k : Calculus M C) (ch : model.Chart M C) where
  -- row h is a live host
  pub record IsLive (h : ℕ) : Type 0 where
    pub row : model.Row M C
    pub at : At ch.rows h row
    pub free : At ch.into h None
    pub shape : M
    pub shape_is : row.shape ≡ Some shape

  -- this is told of row h: its makers where it is a live host, and nothing elsewhere
  abbrev pub IsClassAt : ℕ → Option ClassRows → Type 0
  IsClassAt h None = IsLive h → ⊥
  IsClassAt h (Some c) = (c.host.0 ≡ h) × IsLive h × AreMakerRows k ch h (makers_of c)

  -- these are the classes of the first n rows
  pub record AreTold (n : ℕ) (classes : List ClassRows) : Type 0 where
    pub each : (i : ℕ) (c : ClassRows) → At classes i c → (c.host.0 < n) × IsLive c.host.0 × AreMakerRows k ch c.host.0 (makers_of c)
    pub all : (h : ℕ) → h < n → IsLive h → (i : ℕ) × At (hosts_of classes) i h
    pub rising : AreRising (hosts_of classes)
