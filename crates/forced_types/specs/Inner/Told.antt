-- Nodes say what a graph tells; `spots` has for each node of the graph the node that was made for it, if there is one.
use Rattle.std.specs.Prelude.{ℕ, ◌≡◌, ◌<◌, ◌≤◌, ◌+◌, Some, List, length, slice_index_or}
use Rattle.fs_model.specs.Claims.{Has}
use Rattle.fs_graph.specs.Facts.{path_of}
use Rattle.fs_graph.specs.declared.graph.GraphArc.{GraphArc}
use Rattle.fs_graph.specs.GraphMap.{GraphMap, type_at, arcs_at, arc_to}
use Rattle.forced_types.specs.declared.given.Given.{Given}
use Rattle.forced_types.specs.declared.nodes.Nodes.{Nodes}
use Rattle.forced_types.specs.declared.placed.PlacedGraph.{PlacedGraph}
use Rattle.forced_types.specs.Inner.Sound.{Covers, most_of, size_of, entry_in, path_in}
use Rattle.forced_types.specs.Inner.Closed.{walk_in}

abbrev pub spot_at : List ℕ → ℕ → ℕ
spot_at spots k = slice_index_or spots k 4294967295

-- the end of an arc stands where the node's arc leads
pub record IsEndTold (t : Nodes) (spots : List ℕ) (n : ℕ) (a : GraphArc) : Type 0 where
  pub inside : spot_at spots a.to.0 < size_of t
  pub near : length (path_in t (spot_at spots a.to.0)) ≤ length (path_in t n) + 1
  pub end : ℕ
  pub leads : arc_to (entry_in t (entry_in t n).up).arcs a.feat.0 ≡ Some end
  pub same_node : (entry_in t end).up ≡ (entry_in t (spot_at spots a.to.0)).up

abbrev pub IsArcTold : Given → Nodes → List ℕ → ℕ → GraphArc → Type 0
IsArcTold g t spots n a = length (path_in t n) < most_of g → IsEndTold t spots n a

-- the node that was made for a node has its type and its arcs
pub record IsNodeTold (g : Given) (t : Nodes) (graph : GraphMap) (spots : List ℕ) (k : ℕ) : Type 0 where
  pub type_told : spot_at spots k < size_of t → Covers g.system.now.types (entry_in t (entry_in t (spot_at spots k)).up).types (type_at graph k)
  pub arcs_told : spot_at spots k < size_of t → (a : GraphArc) → Has a (arcs_at graph k) → IsArcTold g t spots (spot_at spots k) a

-- the root stands at the place
pub record IsRootTold (t : Nodes) (p : PlacedGraph) (spots : List ℕ) : Type 0 where
  pub inside : spot_at spots 0 < size_of t
  pub near : length (path_in t (spot_at spots 0)) ≤ length (path_of p.at.now)
  pub leads : walk_in t 0 (path_of p.at.now) ≡ Some (entry_in t (spot_at spots 0)).up
