-- What pending tasks still have to give, in the order of size and, within a size, of level.
use Rattle.std.specs.Prelude.{◌≡◌, ℕ, ◌+◌, ◌≤◌, ◌<◌, ◌⊎◌, None, Some, List, length}
use Rattle.chart_model.specs.Calculus.{Calculus}
use Rattle.chart_model.specs.At.{At}
use Rattle.chart_model.specs.Chart.{Row, Task, Chart, daughters, covers_at, levels_at, level_above}

-- this size and level don't stand before n and l
abbrev pub IsFrom : ℕ → ℕ → ℕ → ℕ → Type 0
IsFrom n l size level = (n < size) ⊎ ((size ≡ n) × (l ≤ level))

module _ {M C : Type 0} (k : Calculus M C) (ch : Chart M C) where
  -- a task puts together a whole tuple, whose cover has this size, and whose mother has this level
  pub record GivesMother (task : Task) (size level : ℕ) : Type 0 where
    pub whole : length (daughters ch.rows task) ≡ k.arity task.rule
    pub cover : C
    pub covers : k.covers task.rule (covers_at ch.rows (daughters ch.rows task)) ≡ Some cover
    pub size_is : size ≡ k.size cover
    pub level_is : level ≡ level_above (levels_at ch.rows (daughters ch.rows task))

  -- one of these daughters is such that no mother over it stands before n and l
  pub record LateDaughter (n l : ℕ) (ds : List ℕ) : Type 0 where
    pub place : ℕ
    pub number : ℕ
    pub at : At ds place number
    pub row : Row M C
    pub row_at : At ch.rows number row
    pub late : IsFrom n l (k.size row.cover) (row.level + 1)

  -- no mother that comes from the task stands before n and l: neither that of its whole tuple, nor one of a longer tuple
  pub record IsLate (n l : ℕ) (task : Task) : Type 0 where
    pub mother : (size level : ℕ) → GivesMother task size level → IsFrom n l size level
    pub front : length (daughters ch.rows task) < k.arity task.rule → LateDaughter n l (daughters ch.rows task)

  -- what is noted of tasks, their mothers' sizes and levels, is so
  abbrev pub NotesAreTrue : (ℕ → ℕ → ℕ → Type 0) → Type 0
  NotesAreTrue notes = (t size level : ℕ) → notes t size level → (task : Task) × At ch.tasks t task × GivesMother task size level

  -- each of these tasks gives a mother of size n and level l
  abbrev pub AreDue : (ℕ → Type 0) → ℕ → ℕ → Type 0
  AreDue due n l = (t : ℕ) → due t → (task : Task) × At ch.tasks t task × GivesMother task n l

  -- a task is noted with a size and a level that don't stand before n and l
  pub record IsNoted (notes : ℕ → ℕ → ℕ → Type 0) (n l t : ℕ) : Type 0 where
    pub size : ℕ
    pub level : ℕ
    pub note : notes t size level
    pub late : IsFrom n l size level

  -- a pending task waits to be looked at: it stands from `seen` on, is late, and has at least `short` daughters, from `far` on one more
  pub record Waits (n l seen far short t : ℕ) (task : Task) : Type 0 where
    pub behind : seen ≤ t
    pub late : IsLate n l task
    pub long : short ≤ length (daughters ch.rows task)
    pub longer : far ≤ t → short + 1 ≤ length (daughters ch.rows task)

  -- while new tasks are looked at: each pending one is noted or waits
  abbrev pub AreTaken : (ℕ → ℕ → ℕ → Type 0) → ℕ → ℕ → ℕ → ℕ → ℕ → Type 0
  AreTaken notes n l seen far short = (t : ℕ) (task : Task) → At ch.tasks t task → At ch.done t None → IsNoted notes n l t ⊎ Waits n l seen far short t task

  -- while the tasks whose mothers have size n and level l are entered: each pending one is due, or noted for later, or new
  abbrev pub AreEntered : (ℕ → ℕ → ℕ → Type 0) → (ℕ → Type 0) → ℕ → ℕ → ℕ → Type 0
  AreEntered notes due n l seen = (t : ℕ) (task : Task) → At ch.tasks t task → At ch.done t None → due t ⊎ (IsNoted notes n (l + 1) t ⊎ ((seen ≤ t) × IsLate n (l + 1) task))

  -- each pending task is noted
  abbrev pub AreNoted : (ℕ → ℕ → ℕ → Type 0) → ℕ → ℕ → Type 0
  AreNoted notes n l = (t : ℕ) (task : Task) → At ch.tasks t task → At ch.done t None → IsNoted notes n l t
