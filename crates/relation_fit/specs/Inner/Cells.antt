-- The cells of a list that reaches its end.
use Rattle.std.specs.Prelude.{ℕ, ◌≡◌, ◌<◌, Some, List, ◌++◌, length, map, slice_index_or}
use Rattle.fs_graph.specs.declared.graph.Node.{Node}
use Rattle.fs_graph.specs.GraphMap.{GraphMap, node_at}
use Rattle.generate_model.specs.Threads.{times}
use Rattle.relation_fit.specs.Lists.{RelList}

abbrev pub nodes_of : List Node → List ℕ
nodes_of ns = map (λ n. n.0) ns

-- one after the other by REST from the beginning, and behind the last of them is the end
pub record AreCells (g : GraphMap) (l : RelList) (cells : List ℕ) : Type 0 where
  pub each : (j : ℕ) → j < length cells → node_at g (l.ends.start ++ times l.rest j) ≡ Some (slice_index_or cells j 0)
  pub end : ℕ
  pub behind : node_at g (l.ends.start ++ times l.rest (length cells)) ≡ Some end
  pub ends : node_at g l.ends.end ≡ Some end
