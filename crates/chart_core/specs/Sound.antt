-- What a core keeps of its fields.
use Rattle.std.specs.Prelude.{◌≡◌, ℕ, ◌+◌, ◌≤◌, ◌<◌, ◌&&◌, Bool, true, false, is_some, is_none, Option, Some, None, List, [], ◌∷◌, map, length, All, MatchOption, vec_capacity}
use Rattle.chart_model.specs.At.{At}
use Rattle.chart_model.specs.Picked.{Rises}
use Rattle.chart_core.specs.declared.chart.Core.{Core}
use Rattle.chart_core.specs.declared.Row.{Row}
use Rattle.chart_core.specs.declared.history.TaskRow.{TaskRow}
use Rattle.chart_core.specs.declared.history.Entry.{Entry}
use Rattle.chart_core.specs.declared.RowKind.{RowKind}
use Rattle.chart_core.specs.declared.RowKind.TheVariants as kinds
use Rattle.chart_core.specs.Lists.{lists_of, list_at, bucket, IsFull}
use Rattle.chart_core.specs.Grammar.{Keys}
use Rattle.chart_core.specs.View.{AreDaughters, list_of}

-- how many are none
abbrev pub left_of : List (Option ℕ) → ℕ
left_of [] = 0
left_of (None ∷ xs) = left_of xs + 1
left_of (Some n ∷ xs) = left_of xs

-- the lists miss no row that is wanted, rise, and stay among the rows
pub record Lists {A : Type 0} (wanted : A → Bool) (key : A → ℕ) (rows : List A) (lists : List (List ℕ)) : Type 0 where
  pub misses_none : (p : ℕ) (row : A) → At rows p row → wanted row ≡ true → (n : ℕ) × At (bucket lists (key row)) n p
  pub rising : (j : ℕ) → Rises 0 (list_at lists j)
  pub inside : (j n p : ℕ) → At (list_at lists j) n p → p < length rows

abbrev pub is_partial_kind : RowKind → Bool
is_partial_kind (kinds.Leaf name) = false
is_partial_kind (kinds.Partial rule) = true
is_partial_kind (kinds.Whole rule) = false

module _ {X T C W B : Type 0} where
  abbrev pub is_host : Row X T C W B → Bool
  is_host row = is_some row.shape && is_none row.into

  pub record SoundOf (keys : Keys C) (rows : List (Row X T C W B)) (tasks : List TaskRow) (history : List Entry) (capacity made : ℕ) (cells_lists begins_lists ends_lists : List (List ℕ)) : Type 0 where
    -- each task that was made has room for its entry, and each entry is of one done task
    pub room : length tasks ≤ capacity
    pub counted : length history + left_of (map (λ t. t.done) tasks) ≡ length tasks
    pub made_few : made ≤ length rows
    pub daughters : All (λ row. AreDaughters row.daughters) rows
    pub in_range : All (λ row. All (λ d. d < length rows) (list_of row.daughters)) rows
    pub entries : All (λ e. MatchOption e.row (Unit {0}) (λ id. id.0 < length rows)) history
    -- the index misses none
    pub cells : Lists is_host (λ row. keys.cell row.cover) rows cells_lists
    pub begins : Lists is_host (λ row. keys.begins row.cover) rows begins_lists
    pub ends : Lists (λ row. is_partial_kind row.kind) (λ row. keys.ends row.cover) rows ends_lists

  pub record IsSound (keys : Keys C) (core : Core X T C W B) : Type 0 where
    pub full_cells : IsFull core.cells
    pub full_begins : IsFull core.begins
    pub full_ends : IsFull core.ends
    pub sound : SoundOf keys core.rows.items core.tasks.items core.history.items (vec_capacity core.history) core.made (lists_of core.cells) (lists_of core.begins) (lists_of core.ends)

  -- nothing but room changed
  pub record KeepsAll (old new : Core X T C W B) : Type 0 where
    pub rows : new.rows.items ≡ old.rows.items
    pub tasks : new.tasks.items ≡ old.tasks.items
    pub history : new.history.items ≡ old.history.items
    pub made : new.made ≡ old.made
    pub cells : lists_of new.cells ≡ lists_of old.cells
    pub begins : lists_of new.begins ≡ lists_of old.begins
    pub ends : lists_of new.ends ≡ lists_of old.ends

  -- the limits and the room for leaves stay
  pub record KeepsFrame (old new : Core X T C W B) : Type 0 where
    pub edges : new.edges ≡ old.edges
    pub unary : new.unary ≡ old.unary
    pub spare : new.spare ≡ old.spare
