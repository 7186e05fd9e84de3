-- Nodes say nothing that isn't forced.
use Rattle.std.specs.Prelude.{ℕ, ◌≡◌, ◌<◌, ◌≤◌, ◌+◌, ◌^◌, Some, List, [], ◌∷◌, ◌++◌, map, length, slice_index_or, true}
use Rattle.type_hierarchy.specs.Table.{TypeTable, count_of, is_below, meet_of}
use Rattle.fs_model.specs.Claims.{Path, Claim, exists_at, same, below, at, Has}
use Rattle.fs_model.specs.Sources.{Source, Told}
use Rattle.fs_graph.specs.Facts.{path_of, claims_of}
use Rattle.fs_graph.specs.declared.graph.GraphArc.{GraphArc}
use Rattle.fs_graph.specs.GraphMap.{GraphMap, node_at}
use Rattle.fs_closing.specs.Rules.{system_of, IsClaimIn}
use Rattle.forced_types.specs.declared.given.Given.{Given}
use Rattle.forced_types.specs.declared.nodes.Image.{Image}
use Rattle.forced_types.specs.declared.nodes.Nodes.{Nodes}
use Rattle.forced_types.specs.declared.nodes.Pair.{Pair}
use Rattle.forced_types.specs.declared.placed.PlacedGraph.{PlacedGraph}
use Rattle.forced_types.specs.Forced.{Forced, IsWithin, IsPathIn}
use Rattle.forced_types.specs.Views.{part_of, ArePartsIn, AreFactsIn}
use Rattle.forced_types.specs.Inner.Entries.{Entry, AreFeatsApart, entry_at, entries_of}

-- the greatest number of features of a path in what is forced
abbrev pub most_of : Given → ℕ
most_of g = g.system.now.path_limit + 1

-- all that is given
abbrev pub source_in : Given → Source
source_in g = record { claims = claims_of g.facts.now; parts = map part_of g.parts.now }

abbrev pub Forces : Given → Claim → Type 0
Forces g = Forced (system_of g.system.now) (most_of g) (Told (source_in g))

abbrev pub place_at : List PlacedGraph → ℕ → Path
place_at parts i = slice_index_or (map (λ p. path_of p.at.now) parts) i []

abbrev pub no_graph : GraphMap
no_graph = record { types = []; arcs = [] }

abbrev pub graph_at : List PlacedGraph → ℕ → GraphMap
graph_at parts i = slice_index_or (map (λ p. p.graph.now) parts) i no_graph

-- a path that leads to a node of a part's graph
pub record IsImage (parts : List PlacedGraph) (path : Path) (im : Image) : Type 0 where
  pub part_in : im.part < length parts
  pub inside : Path
  pub path_is : path ≡ place_at parts im.part ++ inside
  pub leads : node_at (graph_at parts im.part) inside ≡ Some im.node

-- what is said of a node follows, where there are so many nodes with these paths
pub record IsSoundAt (g : Given) (size : ℕ) (path : ℕ → Path) (e : Entry) : Type 0 where
  pub there : Forces g (exists_at e.path)
  pub up_in : e.up < size
  pub up_same : Forces g (same e.path (path e.up))
  pub type_in : (t : ℕ) → Has t e.types → t < count_of g.system.now.types
  pub type_forced : (t : ℕ) → Has t e.types → Forces g (below e.path t)
  pub arc_in : (a : GraphArc) → Has a e.arcs → (a.to.0 < size) × (a.feat.0 < length g.system.now.introducers)
  pub arc_forced : (a : GraphArc) → Has a e.arcs → Forces g (same (e.path ++ a.feat.0 ∷ []) (path a.to.0))
  pub arcs_apart : AreFeatsApart e.arcs
  pub image : (im : Image) → e.image ≡ Some im → IsImage g.parts.now e.path im

abbrev pub paths_in : List Entry → ℕ → Path
paths_in es n = (entry_at es n).path

pub record AreEntriesSound (g : Given) (es : List Entry) : Type 0 where
  pub filled : 0 < length es
  pub small : length es < 2 ^ 32
  pub root : paths_in es 0 ≡ []
  pub each : (k : ℕ) → k < length es → IsSoundAt g (length es) (paths_in es) (entry_at es k)

-- two nodes whose paths are forced equal
pub record IsPairSound (g : Given) (es : List Entry) (x : Pair) : Type 0 where
  pub a_in : x.a < length es
  pub b_in : x.b < length es
  pub equal : Forces g (same (paths_in es x.a) (paths_in es x.b))

pub record AreSound (g : Given) (t : Nodes) : Type 0 where
  pub within : ArePartsIn g.system.now g.parts.now
  pub facts_in : AreFactsIn g.system.now g.facts.now
  pub entries : AreEntriesSound g (entries_of t.list.items)
  pub pairs : (x : Pair) → Has x t.pairs.items → IsPairSound g (entries_of t.list.items) x

abbrev pub size_of : Nodes → ℕ
size_of t = length t.list.items

abbrev pub entry_in : Nodes → ℕ → Entry
entry_in t n = entry_at (entries_of t.list.items) n

abbrev pub path_in : Nodes → ℕ → Path
path_in t n = (entry_in t n).path

-- nodes stay, with their paths
pub record KeepPaths (old new : Nodes) : Type 0 where
  pub more : size_of old ≤ size_of new
  pub same_at : (k : ℕ) → k < size_of old → path_in new k ≡ path_in old k

-- one of the types is at or below a type
pub record Covers (types : TypeTable) (list : List ℕ) (t : ℕ) : Type 0 where
  pub lower : ℕ
  pub has : Has lower list
  pub under : is_below types lower t ≡ true

-- each path on the way of one follows
abbrev pub AreFronts : Given → Path → Type 0
AreFronts g path = (q r : Path) → q ++ r ≡ path → length q ≤ most_of g → Forces g (exists_at q)

-- a claim at a path follows, and so does each path on the way of its paths
pub record MayPut (g : Given) (path : Path) (c : Claim) : Type 0 where
  pub fronts : (x : Path) → IsPathIn x (at path c) → AreFronts g x
  pub claim : IsWithin (most_of g) (at path c) → Forces g (at path c)
  pub inside : IsClaimIn (count_of g.system.now.types) (length g.system.now.introducers) c

-- a path is equal to that of a node
pub record IsEnd (g : Given) (t : Nodes) (path : Path) (m : ℕ) : Type 0 where
  pub inside : m < size_of t
  pub equal : Forces g (same path (path_in t m))

-- each path that is equal to another one, and that goes on with a feature, is equal to that of a node
pub record EndsAt (g : Given) (t : Nodes) (path : Path) (feat m : ℕ) : Type 0 where
  pub inside : m < size_of t
  pub leads : (p : Path) → Forces g (same p path) → Forces g (exists_at (p ++ feat ∷ [])) → Forces g (same (p ++ feat ∷ []) (path_in t m))

-- a path that is equal to another one goes on with a feature
pub record GoesOn (g : Given) (path : Path) (feat : ℕ) : Type 0 where
  pub other : Path
  pub equal : Forces g (same other path)
  pub on : Forces g (exists_at (other ++ feat ∷ []))

-- a node is at or below a type
pub record IsTypeAt (g : Given) (t : Nodes) (n ty : ℕ) : Type 0 where
  pub node : n < size_of t
  pub inside : ty < count_of g.system.now.types
  pub forced : Forces g (below (path_in t n) ty)

-- a node has an arc
pub record IsArcAt (g : Given) (t : Nodes) (n : ℕ) (a : GraphArc) : Type 0 where
  pub node : n < size_of t
  pub to_in : a.to.0 < size_of t
  pub feat_in : a.feat.0 < length g.system.now.introducers
  pub forced : Forces g (same (path_in t n ++ a.feat.0 ∷ []) (path_in t a.to.0))

-- a node's arc leads to another one
pub record IsArcEnd (g : Given) (t : Nodes) (n f m : ℕ) : Type 0 where
  pub inside : m < size_of t
  pub forced : Forces g (same (path_in t n ++ f ∷ []) (path_in t m))

-- two types have a common one
pub record IsCommon (g : Given) (t u m : ℕ) : Type 0 where
  pub inside : m < count_of g.system.now.types
  pub meet_is : meet_of g.system.now.types t u ≡ Some m

-- a node was made for a node of a graph
pub record IsImageAt (g : Given) (t : Nodes) (n : ℕ) (im : Image) : Type 0 where
  pub node : n < size_of t
  pub image : IsImage g.parts.now (path_in t n) im
  pub inside : im.node < length (graph_at g.parts.now im.part).types
