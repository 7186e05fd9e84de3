-- What is written at nodes, and the node that each was merged into.
use Rattle.std.specs.Prelude.{ℕ, zero, suc, ◌≡◌, ◌≢◌, ◌<◌, ◌==◌, true, false, Option, Some, None, List, length, slice_index_or}
use Rattle.fs_closing.specs.declared.marks.Written.{Written}

-- what is written at a node, if anything is
abbrev pub written_at : List (Option Written) → ℕ → Option Written
written_at marks n = slice_index_or marks n None

-- one node is written to
pub record Writes (n : ℕ) (w : Written) (old new : List (Option Written)) : Type 0 where
  pub here : written_at new n ≡ Some w
  pub others : (k : ℕ) → k ≢ n → written_at new k ≡ written_at old k
  pub size : length new ≡ length old

-- A node at which nothing is written stands for itself, of its own type and depth. No arc was added to it.
abbrev pub next_by : ℕ → Option Written → ℕ
next_by n None = n
next_by n (Some w) = w.forward

abbrev pub type_by : ℕ → Option Written → ℕ
type_by own None = own
type_by own (Some w) = w.ty

abbrev pub first_by : Option Written → ℕ
first_by None = 0
first_by (Some w) = w.first

abbrev pub depth_by : ℕ → Option Written → ℕ
depth_by own None = own
depth_by own (Some w) = w.depth

-- all that together, of a node with its own type and depth
abbrev pub stands_by : ℕ → ℕ → ℕ → Option Written → Written
stands_by own deep n o = record { forward = next_by n o; ty = type_by own o; first = first_by o; depth = depth_by deep o }

-- follow the forwards: as many as there were merges are enough
abbrev pub chase : (ℕ → ℕ) → ℕ → ℕ → ℕ
chase next zero n = n
chase next (suc k) n = elim (next n == n) [ true ↦ n | false ↦ chase next k (next n) ]

-- a node was merged at a time, and the node that it was merged into was merged later or never
pub record Rises (next : ℕ → ℕ) (merges : ℕ) : Type 0 where
  pub time : ℕ → ℕ
  pub bounded : (n : ℕ) → next n ≢ n → time n < merges
  pub later : (n : ℕ) → next n ≢ n → next (next n) ≢ next n → time n < time (next n)
