use Rattle.std.proofs.Common.{All, [], map, take, sym, subst, arith}
use Rattle.chart_core.specs.Leaves.{LeafBelongs}
use Rattle.book_signs.specs.Trees.{signs_of}
use Rattle.grammar_shapes.specs.Systems.{rules_of, meaning_of, Belongs}
use Rattle.grammar_shapes.specs.Spanned.{span_calculus}
use Rattle.rule_trees.specs.Mothers.{view_in}
use Rattle.lexical_items.specs.Fulls.{IsLexicalFull}
use Rattle.lexical_items.specs.Views.{lexeme_seen}
use Rattle.grammar_rules.specs.Lined.{AreLined}
use Rattle.grammar_rules.proofs.Lined.{lined_none}
use Rattle.grammar_rules.proofs.Calls.{all_at, next_seen, all_seen}
use Rattle.grammar_rules.proofs.leaves.leaves_of.Goals as goal

pub loop-tree-init : goal.loop-tree-init
loop-tree-init c = record {
  lined = subst (λ ls. AreLined (signs_of c.args.signs.now) (meaning_of c.args.shapes.now) [] ls) (sym c.new-leaves.ensures.items) (lined_none (signs_of c.args.signs.now) (meaning_of c.args.shapes.now));
  belong = subst (λ ls. All (LeafBelongs (span_calculus (rules_of c.args.shapes.now)) (Belongs c.args.shapes.now)) ls) (sym c.new-leaves.ensures.items) (λ k d q. absurd (omega (arith, q)));
}

pub add_leaf-requires-clause-lexical : goal.add_leaf-requires-clause-lexical
add_leaf-requires-clause-lexical c =
    all_at (λ x. IsLexicalFull (signs_of c.args.signs.now) (view_in c.args.signs.now x.full.graph)) c.args.trees.now c.loop-tree.tree-index c.tree-item.result c.requires.lexical c.loop-tree-test.true c.tree-item.is

pub loop-tree-preserved : goal.loop-tree-preserved
loop-tree-preserved c =
    let seen = lexeme_seen (λ full. view_in c.args.signs.now full.graph) in
    record {
      lined = next_seen seen (λ xs. AreLined (signs_of c.args.signs.now) (meaning_of c.args.shapes.now) xs c.add_leaf.new.leaves.items) c.args.trees.now c.loop-tree.tree-index c.tree-item.result c.loop-tree-test.true c.tree-item.is
          (c.in_ok-add_leaf.ensures.lined (map seen (take c.loop-tree.tree-index c.args.trees.now)) c.loop-tree.invariant.lined);
      belong = c.in_ok-add_leaf.ensures.belong c.loop-tree.invariant.belong;
    }

pub returns-clause-lined : goal.returns-clause-lined
returns-clause-lined c =
    all_seen (lexeme_seen (λ full. view_in c.args.signs.now full.graph)) (λ xs. AreLined (signs_of c.args.signs.now) (meaning_of c.args.shapes.now) xs c.loop-tree.leaves.items) c.args.trees.now c.loop-tree.tree-index c.loop-tree-test.false c.loop-tree.invariant.lined
