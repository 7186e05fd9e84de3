-- Bounds within which types, features and paths of a graph are.
use Rattle.std.specs.Prelude.{ℕ, ◌≡◌, ◌<◌, ◌≤◌, Some, All, length}
use Rattle.fs_model.specs.Claims.{Path}
use Rattle.fs_graph.specs.GraphMap.{GraphMap, node_at}
use Rattle.fs_unify.specs.Entering.{IsGraphIn}

-- types and features of a graph are below these numbers, and no path is longer than the limit
pub record IsWithin (types feats limit : ℕ) (graph : GraphMap) : Type 0 where
  pub graph_in : IsGraphIn types feats graph
  pub short : (p : Path) (n : ℕ) → node_at graph p ≡ Some n → length p ≤ limit
  pub feats_in : (p : Path) (n : ℕ) → node_at graph p ≡ Some n → All (λ f. f < feats) p
