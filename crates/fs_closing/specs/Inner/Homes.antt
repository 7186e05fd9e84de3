-- Where the graph of each node is found.
use Rattle.std.specs.Prelude.{ℕ, ◌≡◌, ◌<◌, ◌+◌, None, Some, List, length, slice_index_or}
use Rattle.fs_closing.specs.declared.parts.Based.{Based}
use Rattle.fs_closing.specs.Beside.{home}

-- For each node the place behind its graph's, and 0 where it has none; no node past all graphs has one.
pub record HaveHomes (parts : List Based) (homes : List ℕ) : Type 0 where
  pub none : (n : ℕ) → slice_index_or homes n 0 ≡ 0 → home n parts ≡ None
  pub some : (n k : ℕ) → slice_index_or homes n 0 ≡ k + 1 → (k < length parts) × ((d : Based) → home n parts ≡ Some (slice_index_or parts k d))
