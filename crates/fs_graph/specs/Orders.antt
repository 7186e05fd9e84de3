-- Nodes with their arcs in rows, from which a graph is made, and what is wrong where a node reaches itself.
use Rattle.std.specs.Prelude.{ℕ, ◌≡◌, ◌≢◌, ◌<◌, ◌≤◌, ◌^◌, Some, List, [], map, length, slice_index}
use Rattle.type_hierarchy.specs.declared.types.Ty.{Ty}
use Rattle.fs_model.specs.Claims.{Path}
use Rattle.fs_model.specs.Sources.{IsSameStructure}
use Rattle.fs_model.specs.Table.{walk}
use Rattle.fs_graph.specs.declared.graph.GraphArc.{GraphArc}
use Rattle.fs_graph.specs.declared.clash.Clash.{Clash}
use Rattle.fs_graph.specs.declared.clash.Clash.TheVariants.{Cycle, NoMemory}
use Rattle.fs_graph.specs.GraphMap.{GraphMap, table_of, reader_of, Rises}
use Rattle.fs_graph.specs.Inside.{AreRows, row, graph_map}
use Rattle.fs_graph.specs.Visits.{plan_of}
use Rattle.fs_model.specs.DepthFirst.{IsSettled}

-- what the root reaches, and what reaches itself, by one arc at least
abbrev pub IsReached : GraphMap → ℕ → Type 0
IsReached g n = (p : Path) × (walk (table_of g) 0 p ≡ Some n)

abbrev pub ReachesItself : GraphMap → ℕ → Type 0
ReachesItself g n = (p : Path) × (p ≢ []) × (walk (table_of g) n p ≡ Some n)

-- rows of arcs by rising feature, for each node one
pub record ArePlan (types : List Ty) (starts : List ℕ) (arcs : List GraphArc) : Type 0 where
  pub filled : 0 < length types
  pub few : length types < 2 ^ 32
  pub rows : AreRows (length types) starts (length arcs)
  pub rises : (n : ℕ) → n < length types → Rises (row starts arcs n)
  pub to_in : (n k : ℕ) → n < length types → k < length (row starts arcs n) → slice_index (map (λ a. a.to.0) (row starts arcs n)) k < length types

-- the graph is the structure that is read from the root, in which nothing that is reached reaches itself
pub record IsOrdering (plan graph : GraphMap) : Type 0 where
  pub same : IsSameStructure (reader_of plan) (reader_of graph)
  pub acyclic : (n : ℕ) → IsReached plan n → ReachesItself plan n → ⊥

-- the node that a fault names is reached, and reaches itself
abbrev pub IsClash : GraphMap → Clash → Type 0
IsClash plan (Cycle n) = IsReached plan n.0 × ReachesItself plan n.0
IsClash plan NoMemory = Unit {0}

-- the length of the longest path from the root
pub record IsLongest (g : GraphMap) (longest : ℕ) : Type 0 where
  pub bounds : (q : Path) (n : ℕ) → walk (table_of g) 0 q ≡ Some n → length q ≤ longest
  pub reached : (q : Path) × (n : ℕ) × (walk (table_of g) 0 q ≡ Some n) × (length q ≡ longest)

-- The order has what the root reaches, each node by its least path; nothing that is reached reaches itself.
pub record IsOrderOf (types : List Ty) (starts : List ℕ) (arcs : List GraphArc) (numbers order : List ℕ) (height : ℕ) : Type 0 where
  pub numbers_all : length numbers ≡ length types
  pub settled : IsSettled (plan_of (length types) starts arcs) (slice_index numbers) (slice_index order) (length order)
  pub acyclic : (n : ℕ) → IsReached (graph_map types starts arcs) n → ReachesItself (graph_map types starts arcs) n → ⊥
  pub longest : IsLongest (graph_map types starts arcs) height
