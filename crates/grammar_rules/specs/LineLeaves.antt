-- The leaves of a line's chart: all lexical trees of its lattice, with their shapes.
use Rattle.std.specs.Prelude.{ℕ, List, All, map}
use Rattle.chart_core.specs.Leaves.{LeafBelongs}
use Rattle.morph_analysis.specs.Lattices.{LatticeTree}
use Rattle.tree_model.specs.Lexical.{Words}
use Rattle.tree_model.specs.Licensed.{IsTooDeep}
use Rattle.book_signs.specs.Trees.{SignTree, signs_of}
use Rattle.grammar_shapes.specs.declared.shapes.GrammarShapes.{GrammarShapes}
use Rattle.grammar_shapes.specs.Spanned.{span_calculus}
use Rattle.grammar_shapes.specs.Systems.{rules_of, meaning_of, Belongs}
use Rattle.rule_trees.specs.Fulls.{FullTree}
use Rattle.rule_trees.specs.Mothers.{view_in}
use Rattle.lexical_items.specs.declared.lexeme.LexTree.{LexTree}
use Rattle.lexical_items.specs.Listed.{Lexeme, Trees, IsLexicalAnswer}
use Rattle.lexical_items.specs.Seen.{lattice_seen}
use Rattle.lexical_items.specs.Views.{lexeme_seen}
use Rattle.grammar_rules.specs.Lined.{AreLined}
use Rattle.grammar_rules.specs.declared.leaves.LineLeaves.{LineLeaves}
use Rattle.grammar_rules.specs.declared.leaves.LineLeaves.TheVariants as found

-- lexical trees with their full structures, as lines see them
abbrev pub lexemes_of : SignTree → List (LexTree FullTree) → List Lexeme
lexemes_of t trees = map (lexeme_seen (λ full. view_in t full.graph)) trees

-- A lexical tree has exactly one rule more than the greatest number; or these are the lexical trees of the lattice, each once, and the
-- leaves are these in order, named by their numbers, with shapes that belong to the rules.
abbrev pub AreLineLeaves : SignTree → GrammarShapes → Words → LatticeTree → ℕ → LineLeaves → Type 0
AreLineLeaves t s words lattice most (found.LexicalDepth) = IsTooDeep (signs_of t) words (lattice_seen lattice) most
AreLineLeaves t s words lattice most (found.Leaves trees leaves) =
    IsLexicalAnswer (signs_of t) words (lattice_seen lattice) most (Trees (lexemes_of t trees.items))
    × AreLined (signs_of t) (meaning_of s) (lexemes_of t trees.items) leaves.items
    × All (LeafBelongs (span_calculus (rules_of s)) (Belongs s)) leaves.items
