-- What holds of trees that are written with the names of a grammar.
use Rattle.std.specs.Prelude.{ℕ, ◌≡◌, List, length}
use Rattle.derivation.specs.Trees.{Derivation}
use Rattle.derivation.specs.Text.{IsNamed}
use Rattle.tree_model.specs.Signs.{Signs}
use Rattle.tree_model.specs.Trees.{LeavesAre}
use Rattle.book_signs.specs.Trees.{entries_of, lexical_rules_of}
use Rattle.tree_structures.specs.Formed.{IsFormed}
use Rattle.tree_reading.specs.Grammars.{IsOver}
use Rattle.tree_faults.specs.declared.word_book.WordBook.{WordBook}
use Rattle.tree_faults.specs.WordBooks.{IsNumbered}
use Rattle.tree_names.specs.TreeGrammars.{tree_grammar}

-- Its places are those of entries and of rules, each phrase rule over as many trees as it has daughters.
abbrev pub WrittenAreFormed : Type 0
WrittenAreFormed = (g : Signs) (names : List (List ℕ)) (t : Derivation) → IsOver (tree_grammar g names) t → IsFormed g t

-- A book of words that has the grammar's entries and lexical rules has those of its lexical trees.
abbrev pub WrittenAreNumbered : Type 0
WrittenAreNumbered = (g : Signs) (names : List (List ℕ)) (b : WordBook) (t : Derivation) → b.entries.now ≡ entries_of g → b.rules.now ≡ lexical_rules_of g →
    IsOver (tree_grammar g names) t → LeavesAre (IsNumbered b) t

-- Where each instance has a name, so has each place in the tree.
abbrev pub WrittenAreNamed : Type 0
WrittenAreNamed = (g : Signs) (names : List (List ℕ)) (t : Derivation) → length names ≡ length g.instances → IsOver (tree_grammar g names) t → IsNamed (length names) t
