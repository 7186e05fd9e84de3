-- Rows that count, found by their covers; only private clauses cite it.
use Rattle.std.specs.Prelude.{◌≡◌, ℕ, ◌<◌, Bool, true, false, Option, List, map, length}
use Rattle.chart_model.specs.At.{At}
use Rattle.chart_model.specs.Chart.{all_free}
use Rattle.chart_core.specs.declared.Row.{Row}
use Rattle.chart_core.specs.declared.RowKind.{RowKind}
use Rattle.chart_core.specs.declared.RowKind.TheVariants as kinds
use Rattle.chart_core.specs.Lists.{list_at}
use Rattle.chart_core.specs.Sound.{Lists}
use Rattle.chart_core.specs.View.{list_of}
use Rattle.packed_forests.specs.declared.index.Index.{Index}

abbrev pub lists_in : Index → List (List ℕ)
lists_in index = map (λ v. v.items) index.lists.items

-- there is a list
abbrev pub IsFull : Index → Type 0
IsFull index = 0 < length index.lists.items

-- by what it is, a row counts
abbrev pub counted : List (Option ℕ) → List ℕ → RowKind → Bool
counted into ds (kinds.Leaf name) = true
counted into ds (kinds.Partial rule) = false
counted into ds (kinds.Whole rule) = all_free into ds

module _ {X T C W B : Type 0} where
  -- it is a leaf, or a mother over live hosts alone
  abbrev pub counts : List (Option ℕ) → Row X T C W B → Bool
  counts into row = counted into (list_of row.daughters) row.kind

  -- each row that counts stands under the number of its cover, and none other stands anywhere
  pub record AreFound (cell : C → ℕ) (into : List (Option ℕ)) (rows : List (Row X T C W B)) (lists : List (List ℕ)) : Type 0 where
    pub all : Lists (counts into) (λ row. cell row.cover) rows lists
    pub each : (j n p : ℕ) → At (list_at lists j) n p → (row : Row X T C W B) × At rows p row × (counts into row ≡ true)
