-- How packed classes stand in order: by their nodes, their levels, and the texts of their structures.
use Rattle.std.specs.Prelude.{ℕ, ◌≡◌, List}
use Rattle.std.specs.Cmp.Lexicographic.{slice_cmp}
use Rattle.std.specs.Ordering.{nat_cmp, then_cmp, on}
use Rattle.std.specs.declared.cmp.Ordering.{Ordering}
use Rattle.type_hierarchy.specs.Table.{TypeTable}
use Rattle.fs_model.specs.Claims.{Path}
use Rattle.fs_graph.specs.Facts.{Line}
use Rattle.fs_graph.specs.Text.{text_of}
use Rattle.fs_graph.specs.declared.graph.GraphArc.{GraphArc}
use Rattle.fs_graph.specs.GraphMap.{GraphMap, IsGraph, reader_of}
use Rattle.fs_graph.specs.PathLists.{IsPathList}
use Rattle.tree_model.specs.Structures.{Structure}
use Rattle.tree_model.specs.Views.{view, IsInside}

-- a graph is this structure: that which it has on the paths that may be, and no path goes further
pub record IsGraphOf (paths : List Path) (m : Structure) (graph : GraphMap) : Type 0 where
  pub is_graph : IsGraph graph
  pub inside : IsInside paths (reader_of graph)
  pub same : view paths (reader_of graph) ≡ m

-- the text of a graph is that of the list of its paths, as `expand` writes it
abbrev pub IsGraphText : TypeTable → List (List ℕ) → GraphMap → List ℕ → Type 0
IsGraphText types feats graph text = (lines : List Line) × IsPathList (reader_of graph) lines × (text ≡ text_of types feats lines)

-- from which node to which, on which level, and the structure, as a text and as a graph
pub record Key : Type 0 where
  pub from : ℕ
  pub to : ℕ
  pub level : ℕ
  pub text : List ℕ
  pub graph : GraphMap

-- the nodes' types, then the arcs, node by node
abbrev pub compare_arcs : GraphArc → GraphArc → Ordering
compare_arcs = then_cmp (on (λ (a : GraphArc). a.feat.0) nat_cmp) (on (λ (a : GraphArc). a.to.0) nat_cmp)

abbrev pub compare_graphs : GraphMap → GraphMap → Ordering
compare_graphs = then_cmp (on (λ (g : GraphMap). g.types) (slice_cmp nat_cmp)) (on (λ (g : GraphMap). g.arcs) (slice_cmp (slice_cmp compare_arcs)))

-- By the nodes, the level and the text, compared as bytes. Two structures have two texts, but for that names may hold anything: the graphs,
-- by number, then decide.
abbrev pub compare_keys : Key → Key → Ordering
compare_keys =
    then_cmp (on (λ (k : Key). k.from) nat_cmp)
    (then_cmp (on (λ (k : Key). k.to) nat_cmp)
    (then_cmp (on (λ (k : Key). k.level) nat_cmp) (then_cmp (on (λ (k : Key). k.text) (slice_cmp nat_cmp)) (on (λ (k : Key). k.graph) compare_graphs))))
