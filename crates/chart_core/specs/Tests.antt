-- The tests that find hosts and partials, row by row.
use Rattle.std.specs.Prelude.{◌≡◌, ℕ, ◌<◌, ◌≤◌, ◌&&◌, ◌||◌, nat_le, nat_eq, if◌then◌else◌, Bool, false, Option, Some, None, is_none, is_some, List, [], ◌∷◌, slice_get, length, MatchOption}
use Rattle.std.specs.List.{list_any}
use Rattle.chart_model.specs.Calculus.{Calculus}
use Rattle.chart_model.specs.Chart as model
use Rattle.chart_core.specs.declared.Row.{Row}
use Rattle.chart_core.specs.View.{row_of, list_of}
use Rattle.chart_core.specs.declared.RowKind.{RowKind}
use Rattle.chart_core.specs.declared.RowId.{RowId}
use Rattle.chart_core.specs.declared.history.TaskRow.{TaskRow}
use Rattle.chart_core.specs.declared.RowKind.TheVariants as kinds

abbrev pub passes : {A : Type 0} → (A → Bool) → Option A → Bool
passes test None = false
passes test (Some row) = test row

-- the row at this number passes the test
abbrev pub at_place : {A : Type 0} → (A → Bool) → List A → ℕ → Bool
at_place test rows p = passes test (slice_get rows p)

module _ {X T C W B M : Type 0} (k : Calculus M C) where
  -- a live row of this cover and level whose shape passes the test
  abbrev pub is_peer : (T → M) → (M → Bool) → C → ℕ → Row X T C W B → Bool
  is_peer meaning test cover level row = is_none row.into && model.has_peer k test cover level (row_of meaning row)

  -- a live host of level at most `unary` whose cover joins this one on the right
  abbrev pub is_next_host : ℕ → C → Row X T C W B → Bool
  is_next_host unary cover row = is_some row.shape && is_none row.into && nat_le row.level unary && is_some (k.join cover row.cover)

  -- the rule of the row, where it is a live partial whose cover joins this one on the left
  abbrev pub partner_rule : List (Option ℕ) → C → Row X T C W B → Option ℕ
  partner_rule into cover row = by_kind row.kind
    where
      by_kind : RowKind → Option ℕ
      by_kind (kinds.Partial rule) = if model.all_free into (list_of row.daughters) && is_some (k.join row.cover cover) then Some rule else None
      by_kind (kinds.Leaf name) = None
      by_kind (kinds.Whole rule) = None

-- one of these numbers is among the places
abbrev pub any_in : List ℕ → List ℕ → Bool
any_in places [] = false
any_in places (d ∷ ds) = list_any (λ y. nat_eq y d) places || any_in places ds

module _ {X T C W B : Type 0} where
  -- the level of the row at this number is small
  abbrev pub IsLow : List (Row X T C W B) → ℕ → Type 0
  IsLow rows d = (row : Row X T C W B) → slice_get rows d ≡ Some row → row.level ≤ 32

  -- the rows of the task are there, and leave room for its host
  pub record TaskFits (rows : List (Row X T C W B)) (task : TaskRow) : Type 0 where
    pub host : task.host.0 < length rows
    pub partial : MatchOption task.partial (Unit {0}) (λ p. p.0 < length rows)
    pub short : (p : RowId) (row : Row X T C W B) → task.partial ≡ Some p → slice_get rows p.0 ≡ Some row → row.daughters.count < 4
