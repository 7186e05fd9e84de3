-- Graphs at paths, as the parts of a source.
use Rattle.std.specs.Prelude.{ℕ, ◌≡◌, ◌<◌, List, [], ◌∷◌, ◌++◌, All, length, map}
use Rattle.type_hierarchy.specs.Table.{count_of}
use Rattle.fs_model.specs.Claims.{Path, Has}
use Rattle.fs_model.specs.Sources.{Part, Source}
use Rattle.fs_model.specs.Table.{NodeClaim, is_same}
use Rattle.fs_graph.specs.Facts.{path_of}
use Rattle.fs_graph.specs.GraphMap.{GraphMap, reader_of}
use Rattle.fs_closing.specs.declared.nodes.Nodes.{Nodes}
use Rattle.fs_closing.specs.declared.tasks.Tasks.{Tasks}
use Rattle.fs_unify.specs.declared.parts.Placed.{Placed}
use Rattle.fs_closing.specs.NodeTable.{table_of, AreFlat}
use Rattle.fs_closing.specs.Rules.{Grammar, system_of}
use Rattle.fs_closing.specs.Work.{work_of}
use Rattle.fs_unify.specs.declared.parts.Standing.{Standing}
use Rattle.fs_unify.specs.declared.parts.Standing.TheVariants.{Open, Closed, Cut}
use Rattle.fs_unify.specs.Entering.{Entered, IsGraphIn, IsWellFormed}
use Rattle.fs_unify.specs.Owing.{Owing, owes_all, owes_nothing, owes_rules, OwesOnly}

-- a graph at a path, and what it is said to owe
pub record PlacedGraph : Type 0 where
  pub place : Path
  pub graph : GraphMap
  pub owes : Owing

abbrev pub owing_of : Standing → Owing
owing_of Open = owes_all
owing_of Closed = owes_nothing
owing_of (Cut owed) = owes_rules owed.now

abbrev pub placed : Placed → PlacedGraph
placed p = record { place = path_of p.place.items; graph = p.graph.now; owes = owing_of p.standing }

abbrev pub part_of : PlacedGraph → Part
part_of p = record { place = p.place; reader = reader_of p.graph }

-- what graphs at paths tell
abbrev pub source_of : List PlacedGraph → Source
source_of parts = record { claims = []; parts = map part_of parts }

-- the same of the parts in code
abbrev pub part_in : Placed → Part
part_in p = part_of (placed p)

abbrev pub source_in : List Placed → Source
source_in parts = record { claims = []; parts = map part_in parts }

-- each part's path is to lead to its graph's root
abbrev pub joints : List Part → List ℕ → List NodeClaim
joints [] os = []
joints (p ∷ ps) [] = []
joints (p ∷ ps) (o ∷ os) = is_same 0 p.place o [] ∷ joints ps os

-- no type and no feature of a part is out of range, and it owes no more than is said
pub record IsPlacedIn (g : Grammar) (p : PlacedGraph) : Type 0 where
  pub place_in : All (λ f. f < length g.introducers) p.place
  pub graph_in : IsGraphIn (count_of g.types) (length g.introducers) p.graph
  pub owed_in : OwesOnly g p.graph p.owes

-- what is known of a graph that unification answers
pub record IsAnswerIn (g : Grammar) (graph : GraphMap) : Type 0 where
  pub graph_in : IsGraphIn (count_of g.types) (length g.introducers) graph
  pub well_formed : IsWellFormed (system_of g) (reader_of graph)

-- the first parts have entered nodes and tasks, from these numbers on
pub record HasEntered (g : Grammar) (all first : List Placed) (offsets : List ℕ) (nodes : Nodes) (tasks : Tasks) : Type 0 where
  pub even : length offsets ≡ length first
  pub inside : (o : ℕ) → Has o offsets → o < nodes.size
  pub flat : AreFlat nodes
  pub paths : ℕ → Path
  pub entered : Entered (system_of g) (source_in all) (map part_in first) (table_of nodes) (joints (map part_in first) offsets ++ work_of g.rules tasks) paths
