-- A number that is noted at a node.
use Rattle.std.specs.Prelude.{ℕ, ◌≡◌, ◌≢◌, List, length, slice_index}

-- one node gets a number
pub record Noted (n number : ℕ) (old new : List ℕ) : Type 0 where
  pub here : slice_index new n ≡ number
  pub others : (k : ℕ) → k ≢ n → slice_index new k ≡ slice_index old k
  pub size : length new ≡ length old
