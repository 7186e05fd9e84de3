-- Paths that properties may go along, one after another.
use Rattle.std.specs.Prelude.{ℕ, zero, suc, ◌<◌, ◌≤◌, ◌==◌, ◌&&◌, not, Bool, All, List, [], ◌∷◌, ◌++◌, map, filter, length, take}
use Rattle.std.specs.List.{flat_map}
use Rattle.fs_graph.specs.declared.facts.Feat.{Feat}
use Rattle.fs_graph.specs.declared.graph.GraphArc.{GraphArc}
use Rattle.fs_graph.specs.GraphMap.{GraphMap, type_at, arcs_at}
use Rattle.type_hierarchy.specs.Table.{TypeTable}
use Rattle.mrs_model.specs.Meanings.{Property}
use Rattle.mrs_places.specs.Paths.{Paths}
use Rattle.mrs_extract.specs.declared.properties.Waiting.{Waiting}
use Rattle.mrs_extract.specs.Extraction.{is_string, type_name, feature_name, open_arcs}

-- a path by the numbers of its features, and the node to which it leads
pub record Route : Type 0 where
  pub path : List ℕ
  pub end : ℕ

abbrev pub under : List ℕ → Route → Route
under path r = record { path = path ++ r.path; end = r.end }

-- the paths of at most so many arcs from a node without skipped features, those that begin alike next to each other
abbrev pub routes : GraphMap → Paths → ℕ → ℕ → List Route
routes g p zero n = []
routes g p (suc k) n = flat_map (λ a. record { path = a.feat.0 ∷ []; end = a.to.0 } ∷ map (under (a.feat.0 ∷ [])) (routes g p k a.to.0)) (open_arcs g p n)

-- those that begin with an arc
abbrev pub routes_by : GraphMap → Paths → ℕ → GraphArc → List Route
routes_by g p k a = record { path = a.feat.0 ∷ []; end = a.to.0 } ∷ map (under (a.feat.0 ∷ [])) (routes g p k a.to.0)

-- the name of a path
abbrev pub joined : Paths → List ℕ → List ℕ
joined p [] = []
joined p (f ∷ []) = feature_name p f
joined p (f ∷ g ∷ fs) = feature_name p f ++ 46 ∷ joined p (g ∷ fs)

-- the path ends in a value
abbrev pub is_value : GraphMap → TypeTable → Route → Bool
is_value g types r = (length (arcs_at g r.end) == 0) && not (is_string types (type_at g r.end))

abbrev pub property_at : GraphMap → TypeTable → Paths → Route → Property
property_at g types p r = record { name = joined p r.path; value = type_name types (type_at g r.end) }

-- the properties among some paths
abbrev pub properties_of : GraphMap → TypeTable → Paths → List Route → List Property
properties_of g types p rs = map (property_at g types p) (filter (is_value g types) rs)

abbrev pub numbers_of : List Feat → List ℕ
numbers_of fs = map (λ f. f.0) fs

abbrev pub waits : ℕ → GraphArc → Waiting
waits depth a = record { arc = a; depth = depth }

-- the paths along the arcs that wait, the one that comes next first; each goes on from the front of a path
abbrev pub pending : GraphMap → Paths → ℕ → List ℕ → List Waiting → List Route
pending g p k path [] = []
pending g p k path (w ∷ ws) = map (under (take w.depth path)) (routes_by g p k w.arc) ++ pending g p k path ws

-- what waits later goes on from no deeper
abbrev pub Rests : ℕ → List Waiting → Type 0
Rests depth [] = Unit {0}
Rests depth (w ∷ ws) = (w.depth ≤ depth) × Rests w.depth ws

pub record IsArcIn (nodes feats : ℕ) (a : GraphArc) : Type 0 where
  pub to : a.to.0 < nodes
  pub feat : a.feat.0 < feats

-- paths are in the graph
pub record AreWaiting (nodes feats : ℕ) (path : List ℕ) (ws : List Waiting) : Type 0 where
  pub rests : Rests (length path) ws
  pub arcs : All (λ w. IsArcIn nodes feats w.arc) ws
  pub path_in : All (λ f. f < feats) path
