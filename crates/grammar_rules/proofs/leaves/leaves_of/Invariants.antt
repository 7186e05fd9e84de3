use Rattle.std.proofs.Common.{All, map, take}
use Rattle.chart_core.specs.Leaves.{LeafBelongs}
use Rattle.book_signs.specs.Trees.{signs_of}
use Rattle.grammar_shapes.specs.Systems.{rules_of, meaning_of, Belongs}
use Rattle.grammar_shapes.specs.Spanned.{span_calculus}
use Rattle.rule_trees.specs.Mothers.{view_in}
use Rattle.lexical_items.specs.Views.{lexeme_seen}
use Rattle.grammar_rules.specs.Lined.{AreLined}
use Rattle.grammar_rules.proofs.leaves.leaves_of.Given as goal

abbrev pub invariant-loop-tree : goal.invariant-loop-tree
invariant-loop-tree l =
    record {
      lined : AreLined (signs_of l.signs) (meaning_of l.shapes) (map (lexeme_seen (λ full. view_in l.signs full.graph)) (take l.tree-index l.trees)) l.leaves.items;
      belong : All (LeafBelongs (span_calculus (rules_of l.shapes)) (Belongs l.shapes)) l.leaves.items;
    }
