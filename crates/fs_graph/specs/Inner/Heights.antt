-- The lengths of the longest paths from the nodes that a visit is done with.
use Rattle.std.specs.Prelude.{ℕ, ◌≡◌, ◌<◌, ◌≤◌, ◌+◌, ◌⊎◌, Bool, true, false, List, length, slice_index, slice_index_or}
use Rattle.fs_model.specs.DepthFirst.{Plan}

-- a number is one more than the greatest height to which the arcs of a node lead that stand before a place, and 0 where none does
pub record IsAbove (p : Plan) (height : ℕ → ℕ) (n end h : ℕ) : Type 0 where
  pub above : (i : ℕ) → p.start n ≤ i → i < end → height (p.to i) < h
  pub reached : (h ≡ 0) ⊎ ((i : ℕ) × (p.start n ≤ i) × (i < end) × (h ≡ height (p.to i) + 1))

-- each node that is done with has its height
pub record AreHeights (p : Plan) (closed : List Bool) (heights : List ℕ) : Type 0 where
  pub each : length heights ≡ p.nodes
  pub top : (n : ℕ) → n < p.nodes → slice_index_or closed n false ≡ true → IsAbove p (slice_index heights) n (p.start (n + 1)) (slice_index heights n)
