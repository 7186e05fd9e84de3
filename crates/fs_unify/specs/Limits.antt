-- Structures of closures that have no more paths than a limit.
use Rattle.std.specs.Prelude.{ℕ, ◌<◌, ◌+◌, ◌⊎◌, Option, Some, None, List, [], length, slice_index_or}
use Rattle.fs_model.specs.Claims.{Path, Claim, exists_at, System}
use Rattle.fs_model.specs.Closure.{Closure}
use Rattle.fs_model.specs.Sources.{Reader, Source, Told, IsUnified}
pub use Rattle.fs_drawing.specs.Counting.{AreApart}

-- More paths than a limit exist in the closure, beside that of the root, whether or not it is consistent. More claims have no fewer, so
-- that the order in which claims are worked off doesn't matter.
pub record HasMorePaths (s : System) (given : Claim → Type 0) (limit : ℕ) : Type 0 where
  pub paths : List Path
  pub apart : AreApart paths
  pub exist : (i : ℕ) → i < length paths → Closure s given (exists_at (slice_index_or paths i []))
  pub more : limit + 1 < length paths

-- the structure of a closure that has no more paths than a limit, and none exactly where it is inconsistent or has more
abbrev pub IsUnifiedWithin : System → ℕ → Source → Option Reader → Type 0
IsUnifiedWithin s limit source None = IsUnified s source None ⊎ HasMorePaths s (Told source) limit
IsUnifiedWithin s limit source (Some r) = IsUnified s source (Some r) × (HasMorePaths s (Told source) limit → ⊥)
