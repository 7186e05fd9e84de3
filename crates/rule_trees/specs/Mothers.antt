-- Full structures as graphs: what rules make of them, and which are rooted.
use Rattle.std.specs.Prelude.{ℕ, ◌≡◌, ◌==◌, ◌&&◌, if◌then◌else◌, Bool, Option, Some, None, List, [], map, length, slice_get}
use Rattle.type_hierarchy.specs.Table.{count_of}
use Rattle.fs_graph.specs.GraphMap.{GraphMap, reader_of}
use Rattle.fs_trim.specs.Cutting.{IsShort}
use Rattle.tree_model.specs.Structures.{Structure}
use Rattle.tree_model.specs.Mothers.{Rule, IsFull, IsFullAt, AppliesAt}
use Rattle.tree_model.specs.Views.{view}
use Rattle.tree_model.specs.Signs.{Instance, Signs, rule_system}
use Rattle.tree_model.specs.Lexical.{IsEntry}
use Rattle.book_signs.specs.Trees.{SignTree, signs_of, rule_at}
use Rattle.rule_trees.specs.declared.bounded.BoundedGraph.{BoundedGraph}

-- the structure that a graph is, on the paths that may be
abbrev pub graph_view : SignTree → GraphMap → Structure
graph_view t graph = view (signs_of t).paths (reader_of graph)

-- the bounds are those of a grammar
abbrev pub has_bounds : SignTree → BoundedGraph → Bool
has_bounds t x = (x.types == count_of t.book.system.types) && (x.feats == length t.book.system.introducers) && (x.limit == t.book.system.path_limit)

-- what no entry has and no rule makes: not even the empty path is there
abbrev pub no_structure : Structure
no_structure = record { types = []; equal = [] }

-- the structure that a full structure's graph is to a grammar, on the paths that may be; that of other bounds is none to it
unfoldable pub view_in : SignTree → BoundedGraph → Structure
view_in t x = if has_bounds t x then graph_view t x.plain else no_structure

-- the rule at a place makes this full structure of its daughters'
abbrev pub IsMother : Signs → ℕ → List Structure → Structure → Type 0
IsMother g place fs f = IsFullAt (rule_system g) (rule_at g place) fs f

-- the rule at a place applies to its daughters' full structures
abbrev pub AppliesTo : Signs → ℕ → List Structure → Type 0
AppliesTo g place fs = AppliesAt (rule_system g) (rule_at g place) fs

-- a full structure is an entry's, or what a rule makes of some
pub data IsMade (g : Signs) (f : Structure) : Type 0 where
  made_entry : (entry : ℕ) → IsEntry g entry f → IsMade g f
  made_mother : (rule : Rule) (fs : List Structure) → IsFull (rule_system g) rule fs f → IsMade g f

-- no type and no feature of a graph is out of range, and no path is too long
abbrev pub IsShortIn : SignTree → GraphMap → Type 0
IsShortIn t graph = IsShort t.book.system graph

-- the full structure that the rule at a place makes of its daughters', or that it doesn't apply to them
abbrev pub IsMotherOf : SignTree → ℕ → List GraphMap → Option GraphMap → Type 0
IsMotherOf t place daughters None = AppliesTo (signs_of t) place (map (graph_view t) daughters) → ⊥
IsMotherOf t place daughters (Some graph) = IsMother (signs_of t) place (map (graph_view t) daughters) (graph_view t graph) × IsShortIn t graph

-- at a place stands an instance with so many daughters
pub record HasDaughters (g : Signs) (place count : ℕ) : Type 0 where
  pub instance : Instance
  pub at : slice_get g.instances place ≡ Some instance
  pub arity : length instance.rule.places ≡ count
