-- A new node alone, arcs alone, a graph that enters, and two nodes that become one.
use Rattle.std.specs.Prelude.{ℕ, ◌≡◌, ◌≢◌, ◌<◌, ◌≤◌, ◌+◌, None, All, length, option_map}
use Rattle.fs_model.specs.Claims.{Has}
use Rattle.fs_graph.specs.declared.graph.GraphArc.{GraphArc}
use Rattle.fs_graph.specs.GraphMap.{GraphMap, type_at, arc_to, arcs_at}
use Rattle.fs_model.specs.Table.{Table}
use Rattle.fs_closing.specs.declared.nodes.Nodes.{Nodes}
use Rattle.fs_closing.specs.Cells.{chain}
use Rattle.fs_closing.specs.NodeTable.{table_of, own_row, depth_of}

-- a node without arcs is added
pub record AddsNode (ty : ℕ) (t t' : Table) : Type 0 where
  pub size_is : t'.size ≡ t.size + 1
  pub live_old : (k : ℕ) → k < t.size → t'.live k ≡ t.live k
  pub live_new : (k : ℕ) → t.size ≤ k → t'.live k ≡ k
  pub arc_old : (k g : ℕ) → k < t.size → t'.arc k g ≡ t.arc k g
  pub arc_new : (g : ℕ) → t'.arc t.size g ≡ None
  pub type_old : (k : ℕ) → k < t.size → t'.type_of k ≡ t.type_of k
  pub type_new : t'.type_of t.size ≡ ty

-- nodes keep what they were merged into and the cells of their arcs; types may be lowered and arcs added
pub record KeepsArcs (nodes nodes' : Nodes) : Type 0 where
  pub size : nodes'.size ≡ nodes.size
  pub live : (k : ℕ) → (table_of nodes').live k ≡ (table_of nodes).live k
  pub own : (k : ℕ) → own_row nodes' k ≡ own_row nodes k
  pub more : length nodes.cells ≤ length nodes'.cells
  pub chains : (place : ℕ) → place ≤ length nodes.cells → chain nodes'.cells place ≡ chain nodes.cells place

-- nodes keep their depths too
pub record KeepsDepths (nodes nodes' : Nodes) : Type 0 where
  pub arcs : KeepsArcs nodes nodes'
  pub depths : (k : ℕ) → depth_of nodes' k ≡ depth_of nodes k

-- a node of a depth is added
pub record AddsDepth (depth : ℕ) (nodes nodes' : Nodes) : Type 0 where
  pub others : (k : ℕ) → k ≢ nodes.size → depth_of nodes' k ≡ depth_of nodes k
  pub here : depth_of nodes' nodes.size ≡ depth

-- a graph enters: its root has a depth, and its other nodes have another one
pub record EntersDepth (depth further count : ℕ) (nodes nodes' : Nodes) : Type 0 where
  pub others : (k : ℕ) → k < nodes.size → depth_of nodes' k ≡ depth_of nodes k
  pub root : 0 < count → depth_of nodes' nodes.size ≡ depth
  pub inner : (k : ℕ) → 0 < k → k < count → depth_of nodes' (nodes.size + k) ≡ further
  pub past : (k : ℕ) → nodes.size + count ≤ k → depth_of nodes' k ≡ 0

-- a node gets a type
pub record Retypes (t t' : Table) (n ty : ℕ) : Type 0 where
  pub size_is : t'.size ≡ t.size
  pub live_is : (k : ℕ) → t'.live k ≡ t.live k
  pub arc_is : (k g : ℕ) → t'.arc k g ≡ t.arc k g
  pub type_here : t'.type_of n ≡ ty
  pub type_other : (k : ℕ) → k ≢ n → t'.type_of k ≡ t.type_of k

-- a graph enters a table at its end
pub record EntersTable (g : GraphMap) (t t' : Table) : Type 0 where
  pub size_is : t'.size ≡ t.size + length g.types
  pub live_old : (k : ℕ) → k < t.size → t'.live k ≡ t.live k
  pub live_new : (k : ℕ) → t.size ≤ k → t'.live k ≡ k
  pub arc_old : (k f : ℕ) → k < t.size → t'.arc k f ≡ t.arc k f
  pub arc_new : (k f : ℕ) → k < length g.types → t'.arc (t.size + k) f ≡ option_map (λ m. t.size + m) (arc_to (arcs_at g k) f)
  pub type_old : (k : ℕ) → k < t.size → t'.type_of k ≡ t.type_of k
  pub type_new : (k : ℕ) → k < length g.types → t'.type_of (t.size + k) ≡ type_at g k

-- no type and no feature of a graph is out of range
pub record IsGraphIn (types feats : ℕ) (g : GraphMap) : Type 0 where
  pub types_in : All (λ t. t < types) g.types
  pub feats_in : (k : ℕ) (a : GraphArc) → k < length g.types → Has a (arcs_at g k) → a.feat.0 < feats

-- a node is merged into another, which gets a type
pub record Unites (t t' : Table) (a b ty : ℕ) : Type 0 where
  pub size_is : t'.size ≡ t.size
  pub live_b : (k : ℕ) → t.live k ≡ b → t'.live k ≡ a
  pub live_other : (k : ℕ) → t.live k ≢ b → t'.live k ≡ t.live k
  pub arc_is : (k g : ℕ) → k < t.size → t'.arc k g ≡ t.arc k g
  pub type_here : t'.type_of a ≡ ty
  pub type_other : (k : ℕ) → k < t.size → k ≢ a → t'.type_of k ≡ t.type_of k
