-- How far the nodes of a general structure are matched by nodes of a special one.
use Rattle.std.specs.Prelude.{ℕ, ◌≡◌, ◌≢◌, ◌<◌, ◌≤◌, ◌^◌, true, Some, List, length, slice_index}
use Rattle.fs_model.specs.Claims.{Path, System}
use Rattle.fs_model.specs.Sources.{Subsumes}
use Rattle.type_hierarchy.specs.Table.{TypeTable, is_below}
use Rattle.fs_graph.specs.declared.graph.GraphArc.{GraphArc}
use Rattle.fs_graph.specs.GraphMap.{GraphMap, arc_to, node_at, type_at, table_of, reader_of}
use Rattle.fs_graph.specs.Visits.{feats_of, targets_of}
use Rattle.fs_trim.specs.Marks.{unmet, Extends}

-- a system whose order is that of the types
abbrev pub HasOrder : System → TypeTable → Type 0
HasOrder s types = (t u : ℕ) → s.is_below t u ≡ is_below types t u

-- the general structure doesn't subsume the special one, by the order of these types
abbrev pub IsApart : TypeTable → GraphMap → GraphMap → Type 0
IsApart types general special = (s : System) → HasOrder s types → Subsumes s (reader_of general) (reader_of special) → ⊥

-- and by no order of types
abbrev pub NeverSubsumes : GraphMap → GraphMap → Type 0
NeverSubsumes general special = (s : System) → Subsumes s (reader_of general) (reader_of special) → ⊥

-- one path leads to both nodes
abbrev pub Meets : GraphMap → GraphMap → ℕ → ℕ → Type 0
Meets general special n m = (p : Path) × (node_at general p ≡ Some n) × (node_at special p ≡ Some m)

-- each mark that is set is the node of the special structure at some path of the general one's node
pub record IsSeen (general special : GraphMap) (marks : List ℕ) : Type 0 where
  pub enough : length general.types ≤ length marks
  pub few : length special.types < 2 ^ 32
  pub meets : (n : ℕ) → n < length general.types → slice_index marks n ≢ unmet → Meets general special n (slice_index marks n)

-- the arcs of a node lead to nodes that stand for one another
abbrev pub AreArcsKept : GraphMap → GraphMap → List ℕ → ℕ → Type 0
AreArcsKept general special marks n =
    (f m : ℕ) → (table_of general).arc n f ≡ Some m →
    (slice_index marks m ≢ unmet) × ((table_of special).arc (slice_index marks n) f ≡ Some (slice_index marks m))

-- the first i arcs of a node lead to nodes that stand for one another
pub record AreArcsMet (general special : GraphMap) (arcs others : List GraphArc) (old marks : List ℕ) (i place : ℕ) : Type 0 where
  pub seen : IsSeen general special marks
  pub extends : Extends old marks
  pub within : place ≤ length others
  pub before : (j k : ℕ) → j < place → i ≤ k → k < length arcs → slice_index (feats_of others) j < slice_index (feats_of arcs) k
  pub done : (k : ℕ) → k < i →
      (slice_index marks (slice_index (targets_of arcs) k) ≢ unmet)
      × (arc_to others (slice_index (feats_of arcs) k) ≡ Some (slice_index marks (slice_index (targets_of arcs) k)))

-- a node is matched: a node of the special structure stands for it, with its arcs, and with a type at or below its own
pub record IsMatched (types : TypeTable) (general special : GraphMap) (marks : List ℕ) (n : ℕ) : Type 0 where
  pub met : slice_index marks n ≢ unmet
  pub arcs : AreArcsKept general special marks n
  pub type_below : is_below types (type_at special (slice_index marks n)) (type_at general n) ≡ true
