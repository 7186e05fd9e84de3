-- The report lines of a line of the input, each with its end.
use Rattle.std.specs.Prelude.{ℕ, Bool, true, false, List, [], ◌∷◌, ◌++◌, length, map, codes}
use Rattle.std.specs.Fmt.{decimal}
use Rattle.derivation.specs.Trees.{Derivation}
use Rattle.derivation.specs.Text.{text_of}
use Rattle.tree_model.specs.Items.{Answer, LexicalDepth, ByUnaryChain, ByEdges, Readings, Trees}

-- `item N TEXT`
abbrev pub item_line : ℕ → List ℕ → List ℕ
item_line number text = codes "item " ++ decimal number ++ (32 ∷ text) ++ 10 ∷ []

-- a line that isn't UTF-8
abbrev pub no_text_line : ℕ → List ℕ
no_text_line number = item_line number (codes "not-utf8")

-- a line whose first item that writes no step begins at this byte
abbrev pub no_lattice_line : ℕ → ℕ → List ℕ
no_lattice_line number at = item_line number (codes "no-lattice " ++ decimal at)

-- a line that writes no MRS; its first fault stands at this byte
abbrev pub no_mrs_line : ℕ → ℕ → List ℕ
no_mrs_line number at = item_line number (codes "no-mrs " ++ decimal at)

-- an item that is refused, by this name: the limit that it breaks, or what of it isn't answered
abbrev pub refused_line : ℕ → List ℕ → List ℕ
refused_line number name = item_line number (codes "refused " ++ name)

-- `classes C readings K`
abbrev pub counts : ℕ → ℕ → List ℕ
counts classes readings = codes "classes " ++ decimal classes ++ codes " readings " ++ decimal readings

-- two blanks and a tree, with the nodes of its lexical trees where they are asked for
abbrev pub tree_line : List (List ℕ) → Bool → Derivation → List ℕ
tree_line names nodes tree = (32 ∷ 32 ∷ text_of names nodes tree) ++ 10 ∷ []

abbrev pub trees_lines : List (List ℕ) → Bool → ℕ → ℕ → List Derivation → List (List ℕ)
trees_lines names nodes number classes trees = item_line number (counts classes (length trees)) ∷ map (tree_line names nodes) trees

-- what is written of an answer: the limit that is broken, or the number of classes and of readings, and the trees
abbrev pub answer_lines : List (List ℕ) → Bool → ℕ → Answer → List (List ℕ)
answer_lines names nodes number LexicalDepth = refused_line number (codes "lexical-depth") ∷ []
answer_lines names nodes number ByUnaryChain = refused_line number (codes "unary-chain") ∷ []
answer_lines names nodes number ByEdges = refused_line number (codes "edges") ∷ []
answer_lines names nodes number Readings = refused_line number (codes "readings") ∷ []
answer_lines names nodes number (Trees classes trees) = trees_lines names nodes number classes trees

abbrev pub is_refused : Answer → Bool
is_refused (Trees classes trees) = false
is_refused other = true
