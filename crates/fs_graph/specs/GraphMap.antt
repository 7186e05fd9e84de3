-- A graph as the types and the arcs of its nodes, by number.
use Rattle.std.specs.Prelude.{ℕ, ◌≡◌, ◌<◌, ◌==◌, Option, None, Some, List, [], map, length, find, slice_index, slice_index_or, option_map}
use Rattle.fs_model.specs.Claims.{Path}
use Rattle.fs_model.specs.Sources.{Reader}
use Rattle.fs_model.specs.Table.{Table, walk}
use Rattle.fs_model.specs.Numbering.{seen, IsNumbered, HasHeights}
use Rattle.fs_graph.specs.declared.graph.GraphArc.{GraphArc}

pub record GraphMap : Type 0 where
  pub types : List ℕ
  pub arcs : List (List GraphArc)

abbrev pub type_at : GraphMap → ℕ → ℕ
type_at g n = slice_index_or g.types n 0

abbrev pub arcs_at : GraphMap → ℕ → List GraphArc
arcs_at g n = slice_index_or g.arcs n []

-- where the arc with a feature leads
abbrev pub arc_to : List GraphArc → ℕ → Option ℕ
arc_to arcs f = option_map (λ a. a.to.0) (find (λ a. a.feat.0 == f) arcs)

-- where the arc of a node with a feature leads, if it is a feature that the grammar has
abbrev pub arc_named : GraphMap → ℕ → Option ℕ → Option ℕ
arc_named g n None = None
arc_named g n (Some f) = arc_to (arcs_at g n) f

-- the graph as a table of nodes of which none was merged
abbrev pub table_of : GraphMap → Table
table_of g = record { size = length g.types; live = λ n. n; arc = λ n f. arc_to (arcs_at g n) f; type_of = type_at g }

abbrev pub reader_of : GraphMap → Reader
reader_of g = seen (table_of g)

-- the node at a path from the root
abbrev pub node_at : GraphMap → Path → Option ℕ
node_at g p = walk (table_of g) 0 p

-- a rising list of features
abbrev pub Rises : List GraphArc → Type 0
Rises arcs = (i j : ℕ) → i < j → j < length arcs → slice_index (map (λ a. a.feat.0) arcs) i < slice_index (map (λ a. a.feat.0) arcs) j

-- There is a list of arcs for each node, by rising feature. The nodes are numbered by their least paths, and heights fall
-- along arcs, so that no node reaches itself.
pub record IsGraph (g : GraphMap) : Type 0 where
  pub even : length g.arcs ≡ length g.types
  pub rises : (n : ℕ) → n < length g.types → Rises (arcs_at g n)
  pub least : ℕ → Path
  pub numbered : IsNumbered (table_of g) least
  pub height : ℕ → ℕ
  pub falls : HasHeights (table_of g) height

-- a node has one type and the same arcs in both graphs
abbrev pub IsSameNode : GraphMap → GraphMap → ℕ → Type 0
IsSameNode g h n = (type_at g n ≡ type_at h n) × (arcs_at g n ≡ arcs_at h n)
