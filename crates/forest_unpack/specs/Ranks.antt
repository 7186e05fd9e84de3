-- Ranks of rows.
use Rattle.std.specs.Prelude.{ℕ, ◌+◌, ◌*◌, ◌<◌, ◌^◌, Option, Some, None}
use Rattle.chart_core.specs.declared.Row.{Row}

abbrev pub rank_in : {T : Type 0} → Option T → ℕ → ℕ → ℕ
rank_in None size level = 0
rank_in (Some shape) size level = size * 64 + level

abbrev pub SizedIn : {T : Type 0} → Option T → ℕ → Type 0
SizedIn None size = Unit {0}
SizedIn (Some shape) size = size < 2 ^ 32

module _ {X T C W B : Type 0} (extent : C → ℕ) where
  -- by size, and within a size by level
  abbrev pub rank_by : Row X T C W B → ℕ
  rank_by row = rank_in row.shape (extent row.cover) row.level

  -- the size of a row with a shape is a u32
  abbrev pub IsSized : Row X T C W B → Type 0
  IsSized row = SizedIn row.shape (extent row.cover)
