-- What a call for a task answers, and what it changes.
use Rattle.std.specs.Prelude.{◌≡◌, ℕ, Bool, true, Option, Some, None, length, map, slice_get}
use Rattle.chart_model.specs.Calculus.{Calculus}
use Rattle.chart_model.specs.Tuples.{shapes_of, covers_of}
use Rattle.chart_model.specs.declared.covers.Tuple.{Tuple}
use Rattle.chart_model.specs.Chart as model
use Rattle.chart_core.specs.declared.Entered.{Entered}
use Rattle.chart_core.specs.declared.Entered.TheVariants as entered

module _ {M C : Type 0} (ch : model.Chart M C) (t : ℕ) where
  -- the task is done, at this place
  abbrev pub IsDoneAt : ℕ → Type 0
  IsDoneAt place = slice_get ch.done t ≡ Some (Some place)

  -- the task is pending, and this is the first of its daughters that is frosted
  pub record IsSkipped (row : ℕ) : Type 0 where
    pub task : model.Task
    pub made : slice_get ch.tasks t ≡ Some task
    pub pending : slice_get ch.done t ≡ Some None
    pub frosted : model.first_frosted ch.into (model.daughters ch.rows task) ≡ Some row

  -- the task is pending, and its daughters are all live
  pub record IsOpen : Type 0 where
    pub task : model.Task
    pub made : slice_get ch.tasks t ≡ Some task
    pub pending : slice_get ch.done t ≡ Some None
    pub live : model.first_frosted ch.into (model.daughters ch.rows task) ≡ None

module _ {M C : Type 0} (k : Calculus M C) (limits : model.Limits) (ch : model.Chart M C) (t : ℕ) where
  -- the outcome is right for the task; every outcome is, where the task is done or a daughter is frosted
  abbrev pub IsRightAt : model.Outcome M C → Type 0
  IsRightAt o = (p : IsOpen ch t) → model.IsRight k limits p.task.rule (length (model.daughters ch.rows p.task)) (model.covers_at ch.rows (model.daughters ch.rows p.task)) (model.shapes_at ch.rows (model.daughters ch.rows p.task)) o

  -- the outcome gives a row, for which there is room where room is asked for; the place, the row and its tasks are the next ones
  pub record IsPlaced (bounded : Bool) (o : model.Outcome M C) (by : model.Caller) (place row first end : ℕ) : Type 0 where
    pub live : IsOpen ch t
    pub gives : o ≡ model.Fails → ⊥
    pub room : bounded ≡ true → model.IsFull k limits ch live.task o → ⊥
    pub place_is : place ≡ ch.places
    pub row_is : row ≡ length ch.rows
    pub first_is : first ≡ length ch.tasks
    pub end_is : end ≡ length (model.step k limits ch (record { task = t; outcome = o; by = by })).tasks

  -- when each answer comes; `Full` only where room is asked for
  abbrev pub Answers : Bool → model.Outcome M C → model.Caller → Entered → Type 0
  Answers bounded o by (entered.Stale place) = IsDoneAt ch t place
  Answers bounded o by (entered.Skipped place row) = IsSkipped ch t row.0 × (place ≡ ch.places)
  Answers bounded o by (entered.Noted place) = IsOpen ch t × (o ≡ model.Fails) × (place ≡ ch.places)
  Answers bounded o by (entered.Full made) = (bounded ≡ true) × (p : IsOpen ch t) × model.IsFull k limits ch p.task o × (made ≡ ch.made)
  Answers bounded o by (entered.Placed place row first end) = IsPlaced bounded o by place row.0 first.0 end.0
  Answers bounded o by (entered.NoMemory) = IsOpen ch t × (o ≡ model.Fails → ⊥)

module _ {M C : Type 0} where
  -- the entry that the history gains: a skipped one has the outcome `Fails`
  abbrev pub added : ℕ → model.Outcome M C → model.Caller → Entered → Option (model.Entry M C)
  added t o by (entered.Stale place) = None
  added t o by (entered.Skipped place row) = Some (record { task = t; outcome = model.Fails; by = by })
  added t o by (entered.Noted place) = Some (record { task = t; outcome = o; by = by })
  added t o by (entered.Full made) = None
  added t o by (entered.Placed place row first end) = Some (record { task = t; outcome = o; by = by })
  added t o by (entered.NoMemory) = None

  -- the chart after that entry
  abbrev pub stepped : Calculus M C → model.Limits → model.Chart M C → Option (model.Entry M C) → model.Chart M C
  stepped k limits ch None = ch
  stepped k limits ch (Some e) = model.step k limits ch e

  -- these are a rule, and the covers and structures of the task's daughters
  pub record IsTupleOf {T : Type 0} (meaning : T → M) (ch : model.Chart M C) (t : ℕ) (rule : ℕ) (parts : Tuple T C) : Type 0 where
    pub live : IsOpen ch t
    pub rule_is : rule ≡ live.task.rule
    pub counted : length (shapes_of parts) ≡ length (model.daughters ch.rows live.task)
    pub covers : covers_of parts ≡ model.covers_at ch.rows (model.daughters ch.rows live.task)
    pub shapes : map meaning (shapes_of parts) ≡ model.shapes_at ch.rows (model.daughters ch.rows live.task)
