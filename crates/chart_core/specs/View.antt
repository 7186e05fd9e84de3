-- The plain values that rows and tasks stand for.
use Rattle.std.specs.Prelude.{◌≡◌, ℕ, Option, Some, None, List, [], ◌∷◌, map, length, slice_set, option_map, MatchOption}
use Rattle.chart_model.specs.Calculus.{Calculus}
use Rattle.chart_model.specs.Tuples.{on_list, NoGap}
use Rattle.chart_model.specs.Chart as model
use Rattle.chart_core.specs.declared.Row.{Row}
use Rattle.chart_core.specs.declared.RowId.{RowId}
use Rattle.chart_core.specs.declared.RowKind.{RowKind}
use Rattle.chart_core.specs.declared.RowKind.TheVariants as kinds
use Rattle.chart_core.specs.declared.Daughters.{Daughters}
use Rattle.chart_core.specs.declared.history.TaskRow.{TaskRow}

abbrev pub number_of : Option RowId → Option ℕ
number_of None = None
number_of (Some id) = Some id.0

-- the row, if there is one
abbrev pub one_of : Option RowId → List ℕ
one_of o = on_list (number_of o) []

abbrev pub kind_of : RowKind → model.Kind
kind_of (kinds.Leaf name) = model.OfLeaf name
kind_of (kinds.Partial rule) = model.OfPartial rule
kind_of (kinds.Whole rule) = model.OfWhole rule

abbrev pub list_of : Daughters → List ℕ
list_of d = on_list (number_of d.a) (on_list (number_of d.b) (on_list (number_of d.c) (on_list (number_of d.d) [])))

abbrev pub task_of : TaskRow → model.Task
task_of t = record { rule = t.rule; partial = number_of t.partial; host = t.host.0 }

-- the daughters stand from `a` on, and their number is right
pub record AreDaughters (d : Daughters) : Type 0 where
  pub counted : length (list_of d) ≡ d.count
  pub from_a : NoGap d.a d.b
  pub from_b : NoGap d.b d.c
  pub from_c : NoGap d.c d.d

module _ {X T C W B : Type 0} where
  abbrev pub into_of : List (Row X T C W B) → List (Option ℕ)
  into_of rows = map (λ row. number_of row.into) rows

module _ {X T C W B M : Type 0} where
  abbrev pub row_of : (T → M) → Row X T C W B → model.Row M C
  row_of meaning row = record { kind = kind_of row.kind; daughters = list_of row.daughters; cover = row.cover; level = row.level; shape = option_map meaning row.shape }

  abbrev pub rows_of : (T → M) → List (Row X T C W B) → List (model.Row M C)
  rows_of meaning rows = map (row_of meaning) rows

  -- the shape of the row, if it has one, belongs, and its cover may stand in a chart
  abbrev pub Belongs : Calculus M C → (T → Type 0) → Row X T C W B → Type 0
  Belongs k belongs row = MatchOption row.shape (Unit {0}) (λ shape. belongs shape × k.proper row.cover)

module _ {X T C W B : Type 0} where
  -- the row without its representative
  abbrev pub bare_row : Row X T C W B → Row X T C W B
  bare_row row = record row { into = None }

  -- nothing but representatives changed
  abbrev pub KeepsRows : List (Row X T C W B) → List (Row X T C W B) → Type 0
  KeepsRows old new = map bare_row old ≡ map bare_row new

-- the same representative written at several places
abbrev pub write_all : List (Option ℕ) → List ℕ → ℕ → List (Option ℕ)
write_all into [] n = into
write_all into (p ∷ ps) n = write_all (slice_set into p (Some n)) ps n
