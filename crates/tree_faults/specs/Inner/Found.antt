-- What is found of a tree: its structure, or why it has none; only private clauses cite it.
use Rattle.std.specs.Prelude.{length}
use Rattle.derivation.specs.Trees.{Derivation}
use Rattle.tree_model.specs.Lexical.{Words}
use Rattle.tree_model.specs.Trees.{Full}
use Rattle.book_signs.specs.Trees.{SignTree, signs_of}
use Rattle.tree_structures.specs.Known.{view_of}
use Rattle.tree_faults.specs.declared.explaining.Explanation.{Explanation}
use Rattle.tree_faults.specs.declared.structures.Found.{Found}
use Rattle.tree_faults.specs.declared.structures.Found.TheVariants as founds
use Rattle.tree_faults.specs.Explained.{IsExplained}
use Rattle.tree_faults.specs.Views.{explanation_of, IsExplainedNamed}

-- an explanation of a tree, whatever the words, that can be told by names
pub record IsFault (t : SignTree) (tree : Derivation) (e : Explanation) : Type 0 where
  pub explains : (words : Words) → IsExplained (signs_of t) words tree (explanation_of e)
  pub named : IsExplainedNamed t.book.system.types (length t.book.system.introducers) (length (signs_of t).instances) (explanation_of e)

abbrev pub IsFound : SignTree → Derivation → Found → Type 0
IsFound t tree (founds.Full full) = Full (signs_of t) tree (view_of t full)
IsFound t tree (founds.Fault e) = IsFault t tree e
