-- The line of a tree's MRS (SimpleMRS; Copestake, Flickinger, Pollard and Sag 2005).
use Rattle.std.specs.Prelude.{ℕ, ◌≡◌, Bool, List, [], ◌∷◌, ◌++◌, length, codes, Ok, Err}
use Rattle.std.specs.List.{flat_map}
use Rattle.type_hierarchy.specs.Table.{TypeTable}
use Rattle.fs_graph.specs.GraphMap.{GraphMap}
use Rattle.derivation.specs.Trees.{Derivation}
use Rattle.tree_model.specs.Structures.{Structure}
use Rattle.tree_model.specs.Signs.{Signs}
use Rattle.tree_model.specs.Trees.{Full}
use Rattle.tree_model.specs.Items.{Answer, LexicalDepth, ByUnaryChain, ByEdges, Readings, Trees}
use Rattle.item_reports.specs.Reports.{item_line, counts, tree_line, answer_lines}
use Rattle.mrs_model.specs.Meanings.{Meaning}
use Rattle.mrs_text.specs.Written.{upper, text_of}
use Rattle.mrs_places.specs.Paths.{Paths}
use Rattle.mrs_places.specs.Looking.{NamedPath, Sought}
use Rattle.mrs_extract.specs.Extraction.{Extracts}
use Rattle.tree_structures.specs.Meant.{IsMeantBy}

-- what MRSs need to know of a grammar: its types, and where the MRS of a structure stands
pub record Semantics : Type 0 where
  pub types : TypeTable
  pub paths : Paths

-- two blanks and the text of an MRS
abbrev pub mrs_line : Meaning → List ℕ
mrs_line m = (32 ∷ 32 ∷ text_of m) ++ 10 ∷ []

-- a path as it is written: its features in upper case, each with a dot before it
abbrev pub path_text : NamedPath → List ℕ
path_text path = flat_map (λ name. 46 ∷ upper name) path

-- two blanks and `no mrs at .PATH`
abbrev pub no_mrs_line : NamedPath → List ℕ
no_mrs_line path = (codes "  no mrs at " ++ path_text path) ++ 10 ∷ []

-- the line of an MRS, or of the path that is missing first
abbrev pub sought_line : Sought Meaning → List ℕ
sought_line (Ok m) = mrs_line m
sought_line (Err path) = no_mrs_line path

-- The line of a tree's MRS: the full structure of the tree means a graph, and the line is that of the graph's MRS, or of the path that
-- is missing in it first.
pub record IsMrsLine (g : Signs) (s : Semantics) (tree : Derivation) (line : List ℕ) : Type 0 where
  pub full : Structure
  pub is_full : Full g tree full
  pub graph : GraphMap
  pub meant : IsMeantBy g full graph
  pub outcome : Sought Meaning
  pub extracts : Extracts graph s.types s.paths outcome
  pub line_is : line ≡ sought_line outcome

module _ (g : Signs) (s : Semantics) (names : List (List ℕ)) (nodes : Bool) where
  -- the lines of trees, each followed by the line of its MRS
  pub data AreTreeLines : List Derivation → List (List ℕ) → Type 0 where
    no_trees : AreTreeLines [] []
    a_tree : (tree : Derivation) (line : List ℕ) (trees : List Derivation) (lines : List (List ℕ)) → IsMrsLine g s tree line → AreTreeLines trees lines
        → AreTreeLines (tree ∷ trees) (tree_line names nodes tree ∷ line ∷ lines)

  -- the lines of an answer with MRSs: the number of classes and of readings, and each tree with its MRS; or the limit that is broken
  abbrev pub AreAnswerLines : ℕ → Answer → List (List ℕ) → Type 0
  AreAnswerLines number (Trees classes trees) lines = (rest : List (List ℕ)) × (lines ≡ item_line number (counts classes (length trees)) ∷ rest) × AreTreeLines trees rest
  AreAnswerLines number LexicalDepth lines = lines ≡ answer_lines names nodes number LexicalDepth
  AreAnswerLines number ByUnaryChain lines = lines ≡ answer_lines names nodes number ByUnaryChain
  AreAnswerLines number ByEdges lines = lines ≡ answer_lines names nodes number ByEdges
  AreAnswerLines number Readings lines = lines ≡ answer_lines names nodes number Readings
