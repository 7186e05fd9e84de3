-- The report lines of explanations, each with its end.
use Rattle.std.specs.Prelude.{ℕ, Bool, true, false, List, [], ◌∷◌, ◌++◌, codes}
use Rattle.std.specs.Fmt.{decimal}
use Rattle.std.specs.List.{flat_map}
use Rattle.type_hierarchy.specs.Table.{TypeTable}
use Rattle.fs_graph.specs.Text.{path_text, type_text}
use Rattle.derivation.specs.Text.{name_of}
use Rattle.item_reports.specs.Reports.{item_line}
use Rattle.tree_faults.specs.Nodes.{Place}
use Rattle.tree_faults.specs.Explained.{Explained, Licensed, Clashes, GoesTooFar, Misspelled, Unrooted}

-- a dot for the root, and otherwise for each step a dot and the daughter's number
abbrev pub place_text : Place → List ℕ
place_text [] = 46 ∷ []
place_text (n ∷ place) = flat_map (λ k. 46 ∷ decimal k) (n ∷ place)

-- ` PLACE NAME`
abbrev pub node_text : List (List ℕ) → Place → ℕ → List ℕ
node_text names place instance = (32 ∷ place_text place) ++ 32 ∷ name_of names instance

-- by the names of types, of features and of instances
module _ (types : TypeTable) (feats names : List (List ℕ)) where
  abbrev pub explained_text : Explained → List ℕ
  explained_text Licensed = codes "licensed"
  explained_text (Clashes place instance path t u) =
      codes "fails" ++ node_text names place instance ++ (32 ∷ path_text feats path) ++ (32 ∷ type_text types t) ++ 32 ∷ type_text types u
  explained_text (GoesTooFar place instance path) = codes "fails" ++ node_text names place instance ++ (32 ∷ path_text feats path) ++ codes " too-long"
  explained_text (Misspelled place instance) = codes "fails" ++ node_text names place instance ++ codes " spelling"
  explained_text Unrooted = codes "fails root"

  -- the line of an item; with MRSs that of a licensed tree's MRS follows it
  abbrev pub explained_line : ℕ → Explained → List ℕ
  explained_line number e = item_line number (explained_text e)

-- a line that writes no tree; its first fault stands at this byte
abbrev pub no_tree_line : ℕ → ℕ → List ℕ
no_tree_line number at = item_line number (codes "no-tree " ++ decimal at)

abbrev pub is_refused : Explained → Bool
is_refused Licensed = false
is_refused other = true
