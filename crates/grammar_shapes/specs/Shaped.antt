-- What shapes stand for.
use Rattle.std.specs.Prelude.{◌≡◌, List}
use Rattle.std.specs.Arc.{arc_value}
use Rattle.std.specs.declared.sync.Arc.{Arc}
use Rattle.std.specs.Global.{Global}
use Rattle.fs_model.specs.Claims.{Path}
use Rattle.fs_graph.specs.GraphMap.{GraphMap, reader_of}
use Rattle.fs_closing.specs.Rules.{Grammar, system_of}
use Rattle.fs_unify.specs.Owing.{IsWellFormedBut}
use Rattle.tree_model.specs.Cuts.{Cut}
use Rattle.tree_model.specs.Structures.{Structure}
use Rattle.tree_model.specs.Views.{view}
use Rattle.fs_trim.specs.Cutting.{owed_of, IsShort}
use Rattle.grammar_shapes.specs.declared.place.Place.{Place}
use Rattle.sieve.specs.Sketches.{sketch_of}
use Rattle.grammar_shapes.specs.Ruled.{paths_in}

abbrev pub Shape : Type 0
Shape = Arc Place Global

abbrev pub graph_of : Shape → GraphMap
graph_of s = (arc_value s).graph

-- the structure that a shape stands for: that of its graph on the paths that may be
abbrev pub meaning_in : Grammar → Shape → Structure
meaning_in g s = view (paths_in g) (reader_of (graph_of s))

-- a graph that is in range and well-formed but for what restrictors cut off, with the types that it has at the paths that are
-- compared
pub record BelongsIn (g : Grammar) (restrictors : Cut) (checks : List Path) (s : Shape) : Type 0 where
  pub short : IsShort g (graph_of s)
  pub well_formed : IsWellFormedBut (system_of g) (reader_of (graph_of s)) (owed_of restrictors)
  pub sketched : (arc_value s).sketch ≡ sketch_of (reader_of (graph_of s)) checks
