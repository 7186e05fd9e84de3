-- Graphs of closed nodes.
use Rattle.std.specs.Prelude.{ℕ, ◌≡◌, ◌≢◌, ◌<◌, ◌≤◌, ◌+◌, ◌==◌, ◌&&◌, ◌||◌, ◌⊎◌, not, if◌then◌else◌, Bool, true, false, Option, Some, None, option_map, List, [], ◌∷◌, ◌++◌, length, map, filter, slice_index, slice_index_or}
use Rattle.fs_model.specs.Claims.{Path, System, IsOrder, Has}
use Rattle.fs_model.specs.Sources.{Reader, Source, Told, IsUnified}
use Rattle.fs_model.specs.Table.{Table, walk}
use Rattle.fs_graph.specs.declared.graph.GraphArc.{GraphArc}
use Rattle.fs_graph.specs.Facts.{path_of}
use Rattle.fs_graph.specs.GraphMap.{GraphMap, table_of, type_at, arc_to, Rises}
use Rattle.fs_graph.specs.Inside.{AreRows, row, graph_map}
use Rattle.fs_graph.specs.Orders.{ArePlan, IsOrderOf}
use Rattle.fs_drawing.specs.declared.draw.Off.{Off}
use Rattle.fs_drawing.specs.declared.draw.Picture.{Picture}
use Rattle.fs_graph.specs.Visits.{targets_of}
use Rattle.fs_closing.specs.Keeps.{Deep, Stands, deep_of}
use Rattle.fs_closing.specs.declared.cells.Cell.{Cell}
use Rattle.fs_closing.specs.declared.nodes.Nodes.{Nodes}
use Rattle.fs_closing.specs.NodeTable.{table_of as nodes_table}
use Rattle.fs_drawing.specs.Cutting.{is_one_of, IsUnifiedWithout}

-- a row gets one arc more
pub record PutsArc (feat to : ℕ) (old new : List GraphArc) : Type 0 where
  pub rises : Rises new
  pub here : arc_to new feat ≡ Some to
  pub others : (f : ℕ) → f ≢ feat → arc_to new f ≡ arc_to old f
  pub to_in : (m : ℕ) → to < m → ((k : ℕ) → k < length old → slice_index (targets_of old) k < m) → (k : ℕ) → k < length new → slice_index (targets_of new) k < m

-- the types of the first of some nodes
pub record DrawsTypes (type_of : ℕ → ℕ) (count : ℕ) (types : List ℕ) : Type 0 where
  pub size : length types ≡ count
  pub each : (n : ℕ) → n < count → slice_index_or types n 0 ≡ type_of n

-- the arcs of a node that wasn't merged, by rising feature, each to the node that stands for its end
pub record DrawsRow (t : Table) (n : ℕ) (arcs : List GraphArc) : Type 0 where
  pub rises : Rises arcs
  pub here : (f : ℕ) → t.live n ≡ n → arc_to arcs f ≡ option_map t.live (t.arc n f)
  pub to_in : (k : ℕ) → k < length arcs → slice_index (targets_of arcs) k < t.size

-- arcs as they are drawn, each to the node that stands for its end
abbrev pub ended_row : (ℕ → ℕ) → List Cell → List GraphArc
ended_row live cells = map (λ c. record { feat = record { 0 = c.feat }; to = record { 0 = live c.to } }) cells

-- whether an arc with a feature is left, of the root or of another node, where features are cut off at the root or anywhere
abbrev pub leaves : List ℕ → List ℕ → Bool → ℕ → Bool
leaves at_root anywhere is_root f = not ((is_root && is_one_of at_root f) || is_one_of anywhere f)

-- the same of features in code
abbrev pub leaves_of : Off → Bool → ℕ → Bool
leaves_of off is_root f = leaves (path_of off.at_root.now) (path_of off.anywhere.now) is_root f

-- where an arc of a node leads, if it is left
abbrev pub left_arc : Table → (Bool → ℕ → Bool) → ℕ → ℕ → Option ℕ
left_arc t left n f = if left (n == 0) f then option_map t.live (t.arc n f) else None

-- At each node that was met its place among those that were is noted, counted from 1 on, and nothing at others.
pub record AreNumbered (numbers nodes : List ℕ) : Type 0 where
  pub placed : (k : ℕ) → k < length nodes → slice_index numbers (slice_index nodes k) ≡ k + 1
  pub back : (n : ℕ) → slice_index numbers n ≢ 0 → (k : ℕ) × (k < length nodes) × (slice_index nodes k ≡ n) × (slice_index numbers n ≡ k + 1)

-- a node stands at a place among others
abbrev pub IsPlaced : List ℕ → ℕ → ℕ → Type 0
IsPlaced nodes k n = (k < length nodes) × (slice_index nodes k ≡ n)

-- a node was met, now or before
abbrev pub MeetsOne : ℕ → List ℕ → List ℕ → Type 0
MeetsOne n old new = (new ≡ old) ⊎ (new ≡ old ++ n ∷ [])

-- more nodes were met, to which arcs of a row lead
pub record MeetsEnds (row : List GraphArc) (old new : List ℕ) : Type 0 where
  pub more : List ℕ
  pub all : new ≡ old ++ more
  pub ends : (n : ℕ) → Has n more → Has n (targets_of row)

-- an arc with the node at its place among those that were met
abbrev pub moved : List ℕ → GraphArc → GraphArc
moved met a = record { feat = a.feat; to = record { 0 = slice_index met a.to.0 } }

-- the arcs of a row that are left, to the places of their nodes among those that were met
pub record LeavesRow (met : List ℕ) (left : ℕ → Bool) (r new : List GraphArc) : Type 0 where
  pub back : map (moved met) new ≡ filter (λ a. left a.feat.0) r
  pub to_in : (a : GraphArc) → Has a new → a.to.0 < length met

-- such arcs come behind others
pub record AddsLeft (met : List ℕ) (left : ℕ → Bool) (r old new : List GraphArc) : Type 0 where
  pub more : List GraphArc
  pub all : new ≡ old ++ more
  pub is_left : LeavesRow met left r more

-- the arcs of a node that are left, by rising feature
pub record DrawsNode (t : Table) (left : Bool → ℕ → Bool) (met : List ℕ) (n : ℕ) (new : List GraphArc) : Type 0 where
  pub all : List GraphArc
  pub draws : DrawsRow t n all
  pub is_left : LeavesRow met (left (n == 0)) all new

-- rows of which one after another shows something
pub record DrawsRows (shows : ℕ → List GraphArc → Type 0) (count : ℕ) (starts : List ℕ) (arcs : List GraphArc) : Type 0 where
  pub rows : AreRows count starts (length arcs)
  pub ends : slice_index starts count ≡ length arcs
  pub each : (n : ℕ) → n < count → shows n (row starts arcs n)

-- the first nodes that were met, with their types and the arcs that are left
pub record DrawsMet (t : Table) (left : Bool → ℕ → Bool) (count : ℕ) (p : Picture) : Type 0 where
  pub within : count ≤ length p.met.nodes.items
  pub room : t.size ≤ length p.met.numbers
  pub numbered : AreNumbered p.met.numbers p.met.nodes.items
  pub live_nodes : (n : ℕ) → Has n p.met.nodes.items → (n < t.size) × (t.live n ≡ n)
  pub root : (0 < length p.met.nodes.items) × (slice_index p.met.nodes.items 0 ≡ 0)
  pub types : DrawsTypes (λ k. t.type_of (slice_index p.met.nodes.items k)) count (map (λ y. y.0) p.types.items)
  pub rows : DrawsRows (λ k r. DrawsNode t left p.met.nodes.items (slice_index p.met.nodes.items k) r) count p.starts.items p.arcs.items

-- A graph shows the nodes of a table that the root reaches by arcs that are left. `node_of` has the node of each of its own.
pub record IsPicture (t : Table) (left : Bool → ℕ → Bool) (node_of : ℕ → ℕ) (g : GraphMap) : Type 0 where
  pub root : node_of 0 ≡ 0
  pub apart : (j k : ℕ) → j < length g.types → k < length g.types → node_of j ≡ node_of k → j ≡ k
  pub node_in : (k : ℕ) → k < length g.types → node_of k < t.size
  pub lives : (k : ℕ) → k < length g.types → t.live (node_of k) ≡ node_of k
  pub types : (k : ℕ) → k < length g.types → type_at g k ≡ t.type_of (node_of k)
  pub arcs : (k f : ℕ) → k < length g.types → option_map node_of ((table_of g).arc k f) ≡ left_arc t left (node_of k) f
  pub arc_in : (k f j : ℕ) → k < length g.types → (table_of g).arc k f ≡ Some j → j < length g.types

-- a picture has the rows of the nodes of a table that the root reaches by arcs that are left, whether or not work is left
abbrev pub IsLaidOut : Table → (Bool → ℕ → Bool) → Picture → Type 0
IsLaidOut t left p =
    ArePlan p.types.items p.starts.items p.arcs.items × IsPicture t left (slice_index p.met.nodes.items) (graph_map p.types.items p.starts.items p.arcs.items)

-- the picture of a table: no path in it is longer than the limit
pub record IsPictureIn (t : Table) (left : Bool → ℕ → Bool) (limit : ℕ) (p : Picture) : Type 0 where
  pub plan : ArePlan p.types.items p.starts.items p.arcs.items
  pub shows : IsPicture t left (slice_index p.met.nodes.items) (graph_map p.types.items p.starts.items p.arcs.items)
  pub order : IsOrderOf p.types.items p.starts.items p.arcs.items p.order.numbers.items p.order.order.items p.order.longest
  pub short : p.order.longest ≤ limit

-- the answer of unification, for all given claims for which nodes without work stand
abbrev pub Answers : Deep → ℕ → Option Reader → Type 0
Answers x limit o =
    (s : System) (source : Source) (w : ℕ → Path) → IsOrder s → s.path_limit ≡ limit → Stands s (Told source) x [] w → IsUnified s source o

-- no path is longer than the limit
abbrev pub BoundsPaths : Table → ℕ → Type 0
BoundsPaths t limit = (p : Path) (n : ℕ) → walk t 0 p ≡ Some n → length p ≤ limit

-- whether closed nodes have a picture within the limit; where not, what they stand for is inconsistent
abbrev pub Shows : Nodes → ℕ → Off → Picture → Bool → Type 0
Shows nodes limit off p true = IsPictureIn (nodes_table nodes) (leaves_of off) limit p
Shows nodes limit off p false = Answers (deep_of nodes) limit None

-- what is left of the answer of unification, for all given claims for which nodes without work stand
abbrev pub AnswersWithout : Deep → ℕ → Off → Option Reader → Type 0
AnswersWithout x limit off o =
    (s : System) (source : Source) (w : ℕ → Path) → IsOrder s → s.path_limit ≡ limit → Stands s (Told source) x [] w →
    IsUnifiedWithout s source (path_of off.at_root.now) (path_of off.anywhere.now) o
