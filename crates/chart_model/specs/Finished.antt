-- What a finished chart is.
use Rattle.std.specs.Prelude.{◌≡◌, ℕ, ◌<◌, ◌≤◌, true, Some, List, length}
use Rattle.chart_model.specs.Calculus.{Calculus}
use Rattle.chart_model.specs.At.{At}
use Rattle.chart_model.specs.Chart.{OfLeaf, OfWhole, Row, Task, Chart, Leaf, Limits, Entry, IsLegal, opened, empty, Replay, all_free, covers_at, shapes_at, levels_at, level_above, leaf_row}
use Rattle.chart_model.specs.Classes.{HostsAreClasses}
use Rattle.chart_model.specs.Grown.{LeadsTo, HoldsTrees}

-- each task is done
abbrev pub NothingPending : {M C : Type 0} → Chart M C → Type 0
NothingPending ch = (t : ℕ) (task : Task) → At ch.tasks t task → (place : ℕ) × At ch.done t (Some place)

module _ {M C : Type 0} (k : Calculus M C) (limits : Limits) (leaves : List (Leaf M C)) where
  -- each leaf has exactly one row, that of its own number, with its name, cover and structure and level 0
  pub record LeavesHaveRows (ch : Chart M C) : Type 0 where
    pub row_is : (l : ℕ) (leaf : Leaf M C) → At leaves l leaf → At ch.rows l (leaf_row k limits leaf)
    pub no_other : (i name : ℕ) (row : Row M C) → At ch.rows i row → row.kind ≡ OfLeaf name → i < length leaves

  -- each of these is a live host of level at most the limit
  pub record AreLow (ch : Chart M C) (ds : List ℕ) : Type 0 where
    pub live : all_free ch.into ds ≡ true
    pub hosts : (j d : ℕ) → At ds j d → (row : Row M C) × (m : M) × At ch.rows d row × (row.shape ≡ Some m) × (row.level ≤ limits.unary)

  -- a row has what the rule gives for its daughters
  pub record IsMother (ch : Chart M C) (rule : ℕ) (ds : List ℕ) (row : Row M C) : Type 0 where
    pub kind : row.kind ≡ OfWhole rule
    pub daughters_are : row.daughters ≡ ds
    pub cover : k.covers rule (covers_at ch.rows ds) ≡ Some row.cover
    pub shape : M
    pub shape_is : row.shape ≡ Some shape
    pub mother : k.mother rule (shapes_at ch.rows ds) shape
    pub level : row.level ≡ level_above (levels_at ch.rows ds)

  -- a whole tuple to which a rule and `covers` apply
  pub record IsWhole (ch : Chart M C) (rule : ℕ) (ds : List ℕ) : Type 0 where
    pub rule_is : rule < k.rules
    pub low : AreLow ch ds
    pub whole : length ds ≡ k.arity rule
    pub cover : C
    pub covers : k.covers rule (covers_at ch.rows ds) ≡ Some cover
    pub applies : k.applies rule (shapes_at ch.rows ds)

  -- the one row of a tuple
  pub record OneRow (ch : Chart M C) (rule : ℕ) (ds : List ℕ) : Type 0 where
    pub number : ℕ
    pub row : Row M C
    pub at : At ch.rows number row
    pub is : IsMother ch rule ds row
    pub once : (j : ℕ) (other : Row M C) → At ch.rows j other → other.kind ≡ OfWhole rule → other.daughters ≡ ds → j ≡ number

  -- each whole tuple to which a rule and `covers` apply has exactly one row, and no other whole row has live hosts alone as daughters
  pub record TuplesHaveRows (ch : Chart M C) : Type 0 where
    pub one_row : (rule : ℕ) (ds : List ℕ) → IsWhole ch rule ds → OneRow ch rule ds
    pub no_other : (i rule : ℕ) (row : Row M C) → At ch.rows i row → row.kind ≡ OfWhole rule → all_free ch.into row.daughters ≡ true → IsWhole ch rule row.daughters

  -- a live host of a row's cover and level that subsumes it
  pub record IsLast (ch : Chart M C) (row : Row M C) (m : M) (i : ℕ) : Type 0 where
    pub end : ℕ
    pub leads : LeadsTo ch.into i end
    pub host : Row M C
    pub at : At ch.rows end host
    pub shape : M
    pub shape_is : host.shape ≡ Some shape
    pub over : k.over shape m ≡ true
    pub cover : host.cover ≡ row.cover
    pub level : host.level ≡ row.level

  -- the last representative of each leaf or whole row is a live host of its cover and level that subsumes it
  abbrev pub RowsHaveHosts : Chart M C → Type 0
  RowsHaveHosts ch = (i : ℕ) (row : Row M C) (m : M) → At ch.rows i row → row.shape ≡ Some m → IsLast ch row m i

  -- a finished chart is complete over its leaves
  pub record IsComplete (ch : Chart M C) : Type 0 where
    pub hosts : HostsAreClasses k limits leaves ch
    pub leaf_rows : LeavesHaveRows ch
    pub tuples : TuplesHaveRows ch
    pub reps : RowsHaveHosts ch

-- whatever order the outcomes of tasks are entered in, a chart with nothing pending is complete over its leaves
abbrev pub ChartsAreComplete : {M C : Type 0} → Calculus M C → Type 0
ChartsAreComplete {M} {C} k = (limits : Limits) (leaves : List (Leaf M C)) (history : List (Entry M C)) → IsLegal k limits (opened k limits (empty k limits) leaves) history → NothingPending (Replay k limits leaves history) → IsComplete k limits leaves (Replay k limits leaves history)

-- and each tree over its leaves that has a full structure stands in exactly one group of its forest
abbrev pub ForestsAreComplete : {M C F : Type 0} → Calculus M C → (ℕ → List F → F → Type 0) → (M → F → Type 0) → Type 0
ForestsAreComplete {M} {C} {F} k full agrees = (limits : Limits) (leaves : List (Leaf M C)) (history : List (Entry M C)) → IsLegal k limits (opened k limits (empty k limits) leaves) history → NothingPending (Replay k limits leaves history) → HoldsTrees k full agrees limits leaves (Replay k limits leaves history)
