-- Tasks that are noted under the sizes and levels of their mothers.
use Rattle.std.specs.Prelude.{◌≡◌, ℕ, ◌⊎◌, List, [], option_map, unwrap_or}
use Rattle.std.specs.declared.cmp.Ordering.{Ordering}
use Rattle.std.specs.Ordering.{nat_cmp, ordering_then}
use Rattle.std.specs.BTreeMap as tree
use Rattle.std.specs.VecDeque.{deque_items}
use Rattle.chart_model.specs.At.{At}
use Rattle.chart_model.specs.Ordered.{IsFrom}
use Rattle.chart_core.specs.declared.noted.Notes.{Notes}

abbrev pub Key : Type 0
Key = ℕ × ℕ

-- by size, then by level
abbrev pub compare : Key → Key → Ordering
compare x y = ordering_then (nat_cmp x.0 y.0) (nat_cmp x.1 y.1)

-- the tasks under this size and level, as they were noted
abbrev pub tasks_at : Notes → ℕ → ℕ → List ℕ
tasks_at notes size level = unwrap_or (option_map deque_items (tree.get compare notes.lists (size, level))) []

-- the same tasks are noted
abbrev pub SameNotes : Notes → Notes → Type 0
SameNotes old new = (size level : ℕ) → tasks_at new size level ≡ tasks_at old size level

-- the task is noted under this size and level
abbrev pub noted : Notes → ℕ → ℕ → ℕ → Type 0
noted notes t size level = (i : ℕ) × At (tasks_at notes size level) i t

abbrev pub IsEmpty : Notes → Type 0
IsEmpty notes = (t size level : ℕ) → noted notes t size level → ⊥

-- nothing is noted before this size and level
abbrev pub IsAfter : Notes → ℕ → ℕ → Type 0
IsAfter notes n l = (t size level : ℕ) → noted notes t size level → IsFrom n l size level

-- this one is noted too
pub record Adds (old : Notes) (t size level : ℕ) (new : Notes) : Type 0 where
  pub has : noted new t size level
  pub keeps : (u s v : ℕ) → noted old u s v → noted new u s v
  pub only : (u s v : ℕ) → noted new u s v → noted old u s v ⊎ ((u ≡ t) × (s ≡ size) × (v ≡ level))

-- it is the first under which something is noted
pub record IsNext (notes : Notes) (size level : ℕ) : Type 0 where
  pub task : ℕ
  pub has : noted notes task size level
  pub first : IsAfter notes size level

-- this one is noted no more
pub record Takes (old : Notes) (t size level : ℕ) (new : Notes) : Type 0 where
  pub had : noted old t size level
  pub keeps : (u s v : ℕ) → noted old u s v → noted new u s v ⊎ ((u ≡ t) × (s ≡ size) × (v ≡ level))
  pub only : (u s v : ℕ) → noted new u s v → noted old u s v
