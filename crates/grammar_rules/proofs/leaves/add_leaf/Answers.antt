use Rattle.std.proofs.Common.{◌∙◌}
use Rattle.chart_core.specs.Leaves.{LeafBelongs}
use Rattle.book_signs.specs.Trees.{signs_of}
use Rattle.grammar_shapes.specs.Systems.{rules_of, meaning_of, Belongs}
use Rattle.grammar_shapes.specs.Spanned.{span_calculus}
use Rattle.rule_trees.specs.Mothers.{view_in}
use Rattle.lexical_items.specs.Views.{lexeme_seen}
use Rattle.grammar_rules.proofs.Calls.{leaf_lined, all_more}
use Rattle.grammar_rules.proofs.leaves.add_leaf.Goals as goal

pub returns-clause-lined : goal.returns-clause-lined
returns-clause-lined c = λ xs h.
    leaf_lined (signs_of c.args.signs.now) (meaning_of c.args.shapes.now) xs c.args.leaves.now.items c.push.new.self.items (lexeme_seen (λ full. view_in c.args.signs.now full.graph) c.args.tree.now) c.span_of-cover.result c.in_ok-shape.shape c.in_ok-name.name
    c.in_ok-push.ensures.items c.span_of-cover.ensures.is (c.in_ok-name.ensures ∙ c.len.ensures ∙ c.args.leaves.now.ok.0) c.in_ok-shape.ensures.shape h

pub returns-clause-belong : goal.returns-clause-belong
returns-clause-belong c = λ h.
    all_more (LeafBelongs (span_calculus (rules_of c.args.shapes.now)) (Belongs c.args.shapes.now)) c.args.leaves.now.items c.push.new.self.items (record { cover = c.span_of-cover.result; shape = c.in_ok-shape.shape; name = c.in_ok-name.name })
    c.in_ok-push.ensures.items (c.in_ok-shape.ensures.belongs, c.span_of-cover.ensures.span) h
