-- The line of a full structure's MRS, which is that of each tree with this structure.
use Rattle.std.specs.Prelude.{ℕ, ◌≡◌, List}
use Rattle.fs_graph.specs.GraphMap.{GraphMap}
use Rattle.tree_model.specs.Structures.{Structure}
use Rattle.tree_model.specs.Signs.{Signs}
use Rattle.book_signs.specs.Trees.{SignTree, signs_of}
use Rattle.mrs_model.specs.Meanings.{Meaning}
use Rattle.mrs_places.specs.Paths.{Paths}
use Rattle.mrs_places.specs.Looking.{Sought}
use Rattle.mrs_extract.specs.Extraction.{Extracts}
use Rattle.tree_structures.specs.Meant.{IsMeantBy}
use Rattle.mrs_lines.specs.Lines.{Semantics, sought_line}

-- The structure means a graph, and the line is that of the graph's MRS, or of the path that is missing in it first.
pub record IsFullLine (g : Signs) (s : Semantics) (full : Structure) (line : List ℕ) : Type 0 where
  pub graph : GraphMap
  pub meant : IsMeantBy g full graph
  pub outcome : Sought Meaning
  pub extracts : Extracts graph s.types s.paths outcome
  pub line_is : line ≡ sought_line outcome

-- the signs of a grammar, and where its MRSs stand
pub record MrsSigns : Type 0 where
  pub signs : SignTree
  pub paths : Paths

abbrev pub semantics_in : MrsSigns → Semantics
semantics_in m = record { types = m.signs.book.system.types; paths = m.paths }

-- the line of a full structure's MRS by these signs
abbrev pub IsLineIn : MrsSigns → Structure → List ℕ → Type 0
IsLineIn m full line = IsFullLine (signs_of m.signs) (semantics_in m) full line
