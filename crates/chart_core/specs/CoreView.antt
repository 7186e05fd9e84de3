-- The chart, the leaves and the history that a core stands for.
use Rattle.std.specs.Prelude.{ℕ, Option, Some, None, List, [], ◌∷◌, map, length, slice_get}
use Rattle.chart_model.specs.Tuples.{on_list}
use Rattle.chart_model.specs.Chart as model
use Rattle.chart_core.specs.declared.chart.Core.{Core}
use Rattle.chart_core.specs.declared.history.Entry.{Entry}
use Rattle.chart_core.specs.declared.Caller.{Caller}
use Rattle.chart_core.specs.declared.rows.Candidate.{Candidate}
use Rattle.chart_core.specs.View.{rows_of, into_of, task_of, number_of, kind_of, list_of}

abbrev pub caller_of : Caller → model.Caller
caller_of c = record { seat = c.seat; count = c.count }

module _ {M C : Type 0} where
  -- the outcome that a row came from
  abbrev pub outcome_by : model.Row M C → model.Kind → Option M → model.Outcome M C
  outcome_by row (model.OfLeaf name) shape = model.Fails
  outcome_by row (model.OfPartial rule) shape = model.Fits row.cover
  outcome_by row (model.OfWhole rule) None = model.Fails
  outcome_by row (model.OfWhole rule) (Some m) = model.Makes row.cover m

  abbrev pub outcome_at : Option (model.Row M C) → model.Outcome M C
  outcome_at None = model.Fails
  outcome_at (Some row) = outcome_by row row.kind row.shape

  -- the outcome of an entry that added this row, or none
  abbrev pub outcome_in : List (model.Row M C) → Option ℕ → model.Outcome M C
  outcome_in rows None = model.Fails
  outcome_in rows (Some n) = outcome_at (slice_get rows n)

  abbrev pub entry_of : List (model.Row M C) → Entry → model.Entry M C
  entry_of rows e = record { task = e.task; outcome = outcome_in rows (number_of e.row); by = caller_of e.by }

  abbrev pub leaf_by : model.Row M C → model.Kind → Option M → Option (model.Leaf M C)
  leaf_by row (model.OfLeaf name) None = None
  leaf_by row (model.OfLeaf name) (Some m) = Some (record { cover = row.cover; shape = m; name = name })
  leaf_by row (model.OfPartial rule) shape = None
  leaf_by row (model.OfWhole rule) shape = None

  -- the leaves among rows, in order
  abbrev pub leaves_in : List (model.Row M C) → List (model.Leaf M C)
  leaves_in [] = []
  leaves_in (row ∷ rows) = on_list (leaf_by row row.kind row.shape) (leaves_in rows)

module _ {X T C W B M : Type 0} where
  abbrev pub chart_of : (T → M) → Core X T C W B → model.Chart M C
  chart_of meaning core =
      record {
        rows = rows_of meaning core.rows.items;
        into = into_of core.rows.items;
        tasks = map task_of core.tasks.items;
        done = map (λ t. t.done) core.tasks.items;
        made = core.made;
        places = length core.history.items;
      }

  abbrev pub history_of : (T → M) → Core X T C W B → List (model.Entry M C)
  history_of meaning core = map (entry_of (rows_of meaning core.rows.items)) core.history.items

  abbrev pub leaves_of : (T → M) → Core X T C W B → List (model.Leaf M C)
  leaves_of meaning core = leaves_in (rows_of meaning core.rows.items)

module _ {X T C W B : Type 0} where
  abbrev pub limits_of : Core X T C W B → model.Limits
  limits_of core = record { edges = core.edges; unary = core.unary }

module _ {X T C W B M : Type 0} where
  -- the row that is to be entered
  abbrev pub candidate_of : (T → M) → Candidate X T C W B → model.Row M C
  candidate_of meaning new = record { kind = kind_of new.kind; daughters = list_of new.daughters; cover = new.cover; level = new.level; shape = Some (meaning new.shape) }
