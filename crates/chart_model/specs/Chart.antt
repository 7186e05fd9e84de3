-- The state of a chart as a function of its history.
use Rattle.std.specs.Prelude.{◌≡◌, ℕ, ◌+◌, ◌*◌, ◌≤◌, ◌<◌, Bool, true, false, ◌&&◌, nat_le, ◌==◌, if◌then◌else◌, Option, Some, None, is_some, List, [], ◌∷◌, ◌++◌, length, map, slice_get, slice_set}
use Rattle.std.specs.Prelude.{◌⊎◌}
use Rattle.std.proofs.Common.{zero, suc}
use Rattle.chart_model.specs.Calculus.{Calculus, NoneApplies}
use Rattle.chart_model.specs.Tuples.{on_list}

-- a leaf has its name, any other row its rule
pub data Kind : Type 0 where
  OfLeaf : ℕ → Kind
  OfPartial : ℕ → Kind
  OfWhole : ℕ → Kind

-- what stays of a row; a partial has no shape and level 0
pub record Row (M C : Type 0) : Type 0 where
  pub kind : Kind
  pub daughters : List ℕ
  pub cover : C
  pub level : ℕ
  pub shape : Option M

-- a rule, the daughters before the host (a partial row, or none), and the host
pub record Task : Type 0 where
  pub rule : ℕ
  pub partial : Option ℕ
  pub host : ℕ

-- `into` has the representative of each row that is packed or frosted, `done` the place of each task that is done
pub record Chart (M C : Type 0) : Type 0 where
  pub rows : List (Row M C)
  pub into : List (Option ℕ)
  pub tasks : List Task
  pub done : List (Option ℕ)
  pub made : ℕ
  pub places : ℕ

pub data Outcome (M C : Type 0) : Type 0 where
  Fails : Outcome M C
  Fits : C → Outcome M C
  Makes : C → M → Outcome M C

pub record Caller : Type 0 where
  pub seat : ℕ
  pub count : ℕ

pub record Entry (M C : Type 0) : Type 0 where
  pub task : ℕ
  pub outcome : Outcome M C
  pub by : Caller

pub record Leaf (M C : Type 0) : Type 0 where
  pub cover : C
  pub shape : M
  pub name : ℕ

pub record Limits : Type 0 where
  pub edges : ℕ
  pub unary : ℕ

-- no representative is written at this row
abbrev pub is_free : List (Option ℕ) → ℕ → Bool
is_free [] i = false
is_free (None ∷ intos) zero = true
is_free (Some r ∷ intos) zero = false
is_free (into ∷ intos) (suc i) = is_free intos i

abbrev pub all_free : List (Option ℕ) → List ℕ → Bool
all_free into [] = true
all_free into (d ∷ ds) = is_free into d && all_free into ds

-- the first of these rows that has a representative
abbrev pub first_frosted : List (Option ℕ) → List ℕ → Option ℕ
first_frosted into [] = None
first_frosted into (d ∷ ds) = if is_free into d then first_frosted into ds else Some d

module _ {M C : Type 0} where
  abbrev pub daughters_of_row : Option (Row M C) → List ℕ
  daughters_of_row None = []
  daughters_of_row (Some row) = row.daughters

  abbrev pub before : List (Row M C) → Option ℕ → List ℕ
  before rows None = []
  before rows (Some p) = daughters_of_row (slice_get rows p)

  -- the daughters that a task puts together
  abbrev pub daughters : List (Row M C) → Task → List ℕ
  daughters rows task = before rows task.partial ++ task.host ∷ []

  abbrev pub cover_of : Option (Row M C) → Option C
  cover_of None = None
  cover_of (Some row) = Some row.cover

  abbrev pub shape_of : Option (Row M C) → Option M
  shape_of None = None
  shape_of (Some row) = row.shape

  abbrev pub covers_at : List (Row M C) → List ℕ → List C
  covers_at rows [] = []
  covers_at rows (d ∷ ds) = on_list (cover_of (slice_get rows d)) (covers_at rows ds)

  abbrev pub shapes_at : List (Row M C) → List ℕ → List M
  shapes_at rows [] = []
  shapes_at rows (d ∷ ds) = on_list (shape_of (slice_get rows d)) (shapes_at rows ds)

  abbrev pub level_of : Option (Row M C) → Option ℕ
  level_of None = None
  level_of (Some row) = Some row.level

  abbrev pub levels_at : List (Row M C) → List ℕ → List ℕ
  levels_at rows [] = []
  levels_at rows (d ∷ ds) = on_list (level_of (slice_get rows d)) (levels_at rows ds)

-- the level over daughters of these levels: only a single one counts
abbrev pub level_above : List ℕ → ℕ
level_above [] = 0
level_above (l ∷ []) = l + 1
level_above (l ∷ m ∷ ls) = 0

-- a new host with each rule
abbrev pub rule_tasks : ℕ → ℕ → ℕ → List Task
rule_tasks n rule zero = []
rule_tasks n rule (suc more) = record { rule = rule; partial = None; host = n } ∷ rule_tasks n (rule + 1) more

module _ {M C : Type 0} (k : Calculus M C) where
  -- a row of this cover and level whose shape passes the test
  abbrev pub has_peer : (M → Bool) → C → ℕ → Row M C → Bool
  has_peer test cover level row = passes row.shape
    where
      passes : Option M → Bool
      passes None = false
      passes (Some m) = k.same row.cover cover && (row.level == level) && test m

  -- the free row of least number, counted from i, that has such a peer
  abbrev pub first_peer : (Row M C → Bool) → ℕ → List (Row M C) → List (Option ℕ) → Option ℕ
  first_peer test i [] intos = None
  first_peer test i (row ∷ rows) [] = None
  first_peer test i (row ∷ rows) (Some r ∷ intos) = first_peer test (i + 1) rows intos
  first_peer test i (row ∷ rows) (None ∷ intos) = if test row then Some i else first_peer test (i + 1) rows intos

  -- each free row that passes the test gets the representative n
  abbrev pub frosted : (Row M C → Bool) → ℕ → List (Row M C) → List (Option ℕ) → List (Option ℕ)
  frosted test n [] intos = intos
  frosted test n (row ∷ rows) [] = []
  frosted test n (row ∷ rows) (Some r ∷ intos) = Some r ∷ frosted test n rows intos
  frosted test n (row ∷ rows) (None ∷ intos) = (if test row then Some n else None) ∷ frosted test n rows intos

  -- what the function gives for the rows, which are counted from i
  abbrev pub gather : (ℕ → Row M C → Option Task) → ℕ → List (Row M C) → List Task
  gather f i [] = []
  gather f i (row ∷ rows) = on_list (f i row) (gather f (i + 1) rows)

  -- a new host n of this cover with row i, where that is a live partial that joins it
  abbrev pub host_task : List (Option ℕ) → C → ℕ → ℕ → Row M C → Option Task
  host_task into cover n i row = with_kind row.kind
    where
      with_kind : Kind → Option Task
      with_kind (OfPartial rule) =
          if all_free into row.daughters && is_some (k.join row.cover cover)
          then Some (record { rule = rule; partial = Some i; host = n })
          else None
      with_kind kind = None

  -- a new partial n of this rule and cover with row i, where that is a live host that joins it
  abbrev pub partial_task : ℕ → List (Option ℕ) → ℕ → C → ℕ → ℕ → Row M C → Option Task
  partial_task unary into rule cover n i row =
      if is_some row.shape && is_free into i && nat_le row.level unary && is_some (k.join cover row.cover)
      then Some (record { rule = rule; partial = Some n; host = i })
      else None

-- the chart with these new tasks, none of which is done
abbrev pub with_tasks : {M C : Type 0} → Chart M C → List Task → Chart M C
with_tasks ch new = record ch { tasks = ch.tasks ++ new; done = ch.done ++ map (λ _. None) new }

-- the chart with one more row
abbrev pub with_row : {M C : Type 0} → Chart M C → Row M C → Option ℕ → Chart M C
with_row ch row into = record ch { rows = ch.rows ++ row ∷ []; into = ch.into ++ into ∷ [] }

abbrev pub with_done : {M C : Type 0} → Chart M C → ℕ → Chart M C
with_done ch t = record ch { done = slice_set ch.done t (Some ch.places); places = ch.places + 1 }

module _ {M C : Type 0} (k : Calculus M C) (limits : Limits) where
  -- the tasks of a new host n: with each rule, and with each live partial that joins it
  abbrev pub tasks_of_host : List (Row M C) → List (Option ℕ) → ℕ → C → ℕ → List Task
  tasks_of_host rows into n cover level =
      if nat_le level limits.unary then rule_tasks n 0 k.rules ++ gather k (host_task k into cover n) 0 rows else []

  abbrev pub tasks_of_partial : List (Row M C) → List (Option ℕ) → ℕ → ℕ → C → List Task
  tasks_of_partial rows into n rule cover = gather k (partial_task k limits.unary into rule cover n) 0 rows

  -- a leaf or a whole row of this shape is packed, or becomes a host
  abbrev pub peer_over : Chart M C → Row M C → M → Option ℕ
  peer_over ch row m = first_peer k (has_peer k (λ h. k.over h m) row.cover row.level) 0 ch.rows ch.into

  abbrev pub with_frost : Chart M C → Row M C → M → Chart M C
  with_frost ch row m = record ch { into = frosted k (has_peer k (k.over m) row.cover row.level) (length ch.rows) ch.rows ch.into }

  abbrev pub with_host : Chart M C → Row M C → Chart M C
  with_host ch row =
      record (with_tasks (with_row ch row None) (tasks_of_host ch.rows ch.into (length ch.rows) row.cover row.level)) { made = ch.made + 1 }

  abbrev pub with_whole : Chart M C → Row M C → M → Chart M C
  with_whole ch row m = by_peer (peer_over ch row m)
    where
      by_peer : Option ℕ → Chart M C
      by_peer (Some r) = with_row ch row (Some r)
      by_peer None = with_host (with_frost ch row m) row

  abbrev pub with_partial : Chart M C → Row M C → ℕ → Chart M C
  with_partial ch row rule = with_tasks (with_row ch row None) (tasks_of_partial ch.rows ch.into (length ch.rows) rule row.cover)

  -- the row that an outcome gives for a task
  abbrev pub whole_row : Chart M C → Task → C → M → Row M C
  whole_row ch task c m = record { kind = OfWhole task.rule; daughters = daughters ch.rows task; cover = c; level = level_above (levels_at ch.rows (daughters ch.rows task)); shape = Some m }

  abbrev pub partial_row : Chart M C → Task → C → Row M C
  partial_row ch task c = record { kind = OfPartial task.rule; daughters = daughters ch.rows task; cover = c; level = 0; shape = None }

  -- what an outcome adds for a task whose daughters are all live
  abbrev pub with_outcome : Chart M C → Task → Outcome M C → Chart M C
  with_outcome ch task Fails = ch
  with_outcome ch task (Fits c) = with_partial ch (partial_row ch task c) task.rule
  with_outcome ch task (Makes c m) = with_whole ch (whole_row ch task c m) m

  abbrev pub step_at : Chart M C → ℕ → Outcome M C → Option Task → Bool → Chart M C
  step_at ch t outcome None pending = ch
  step_at ch t outcome (Some task) false = ch
  step_at ch t outcome (Some task) true =
      if all_free ch.into (daughters ch.rows task) then with_outcome (with_done ch t) task outcome else with_done ch t

  -- one entry of a history
  abbrev pub step : Chart M C → Entry M C → Chart M C
  step ch e = step_at ch e.task e.outcome (slice_get ch.tasks e.task) (is_free ch.done e.task)

  abbrev pub leaf_row : Leaf M C → Row M C
  leaf_row leaf = record { kind = OfLeaf leaf.name; daughters = []; cover = leaf.cover; level = 0; shape = Some leaf.shape }

  abbrev pub empty : Chart M C
  empty = record { rows = []; into = []; tasks = []; done = []; made = 0; places = 0 }

  abbrev pub opened : Chart M C → List (Leaf M C) → Chart M C
  opened ch [] = ch
  opened ch (leaf ∷ leaves) = opened (with_whole ch (leaf_row leaf) leaf.shape) leaves

  abbrev pub replayed : Chart M C → List (Entry M C) → Chart M C
  replayed ch [] = ch
  replayed ch (e ∷ es) = replayed (step ch e) es

  -- the state after a history, from the leaves on
  abbrev pub Replay : List (Leaf M C) → List (Entry M C) → Chart M C
  Replay leaves history = replayed (opened empty leaves) history

  -- an outcome is right for these daughters under a rule
  abbrev pub IsRight : ℕ → ℕ → List C → List M → Outcome M C → Type 0
  IsRight rule n cs ms Fails = (k.covers rule cs ≡ None) ⊎ NoneApplies k rule ms
  IsRight rule n cs ms (Fits c) = (n < k.arity rule) × (k.covers rule cs ≡ Some c)
  IsRight rule n cs ms (Makes c m) = (n ≡ k.arity rule) × (k.covers rule cs ≡ Some c) × k.mother rule ms m

  -- no room for one more host
  abbrev pub IsFull : Chart M C → Task → Outcome M C → Type 0
  IsFull ch task Fails = ⊥
  IsFull ch task (Fits c) = ⊥
  IsFull ch task (Makes c m) = (peer_over ch (whole_row ch task c m) m ≡ None) × (4 * limits.edges + 64 ≤ ch.made)

  -- a step adds this entry
  pub record Adds (ch : Chart M C) (e : Entry M C) : Type 0 where
    pub task : Task
    pub made : slice_get ch.tasks e.task ≡ Some task
    pub pending : is_free ch.done e.task ≡ true
    pub skipped : all_free ch.into (daughters ch.rows task) ≡ false → e.outcome ≡ Fails
    pub right : all_free ch.into (daughters ch.rows task) ≡ true → IsRight task.rule (length (daughters ch.rows task)) (covers_at ch.rows (daughters ch.rows task)) (shapes_at ch.rows (daughters ch.rows task)) e.outcome
    pub room : IsFull ch task e.outcome → ⊥

  -- each entry is one that a step adds in the state after those before it
  abbrev pub IsLegal : Chart M C → List (Entry M C) → Type 0
  IsLegal ch [] = Unit {0}
  IsLegal ch (e ∷ es) = Adds ch e × IsLegal (step ch e) es
