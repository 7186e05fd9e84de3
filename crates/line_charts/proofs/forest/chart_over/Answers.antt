use Rattle.std.proofs.Common.{map, subst}
use Rattle.chart_model.specs.Limits.{IsLimitAnswer, Within, UnaryChain, Edges}
use Rattle.chart_core.specs.Kept.{limits_seen}
use Rattle.chart_core.specs.Leaves.{leaf_seen}
use Rattle.chart_core.specs.Passed.{IsPassFault}
use Rattle.tree_model.specs.Mothers.{RuleSystem}
use Rattle.tree_model.specs.Items.{leaves_from}
use Rattle.book_signs.specs.Trees.{signs_of}
use Rattle.rule_trees.specs.Mothers.{view_in}
use Rattle.grammar_shapes.specs.Spanned.{span_calculus}
use Rattle.grammar_shapes.specs.Systems.{rules_of, meaning_of, Belongs}
use Rattle.grammar_rules.specs.Leafed.{leaf_trees}
use Rattle.grammar_rules.specs.Lined.{shapes_in}
use Rattle.grammar_rules.specs.LineLeaves.{lexemes_of}
use Rattle.line_charts.proofs.Over.{same_belong, line_trees, over_packed, over_answer}
use Rattle.line_charts.proofs.forest.chart_over.Goals as goal

pub pack-requires-clause-leaves : goal.pack-requires-clause-leaves
pack-requires-clause-leaves c =
    same_belong c.in-Ok.over.items c.args.leaves.items c.in-Ok.ensures (span_calculus (rules_of c.args.grammar.now.shapes.now)) (Belongs c.args.grammar.now.shapes.now) c.requires.belong

pub told_forest-requires-clause-packed : goal.told_forest-requires-clause-packed
told_forest-requires-clause-packed c =
    let t = c.args.grammar.now.signs.now in
    let s = c.args.grammar.now.shapes.now in (
      leaf_trees (lexemes_of t c.args.trees.now) (shapes_in (signs_of t) (meaning_of s) c.args.leaves.items),
      c.args.limits.now,
      line_trees (signs_of t) (λ full. view_in t full.graph) c.args.trees.now (shapes_in (signs_of t) (meaning_of s) c.args.leaves.items) c.requires.lined.shaped,
      over_packed t s c.in-Ok.over.items c.args.leaves.items c.in-Ok.ensures (lexemes_of t c.args.trees.now) c.requires.lined (limits_seen c.args.limits.now) c.in-Ok-pack.packed c.in-Ok-pack.ensures,
    )

pub returns-in_ok-classes-in-Ok-pack-clause-charted : goal.returns-in_ok-classes-in-Ok-pack-clause-charted
returns-in_ok-classes-in-Ok-pack-clause-charted c = λ words lattice most.
    let t = c.args.grammar.now.signs.now in
    let s = c.args.grammar.now.shapes.now in
    let ls = leaf_trees (lexemes_of t c.args.trees.now) (shapes_in (signs_of t) (meaning_of s) c.args.leaves.items) in
    let trees_are = line_trees (signs_of t) (λ full. view_in t full.graph) c.args.trees.now (shapes_in (signs_of t) (meaning_of s) c.args.leaves.items) c.requires.lined.shaped in
    let chart = over_packed t s c.in-Ok.over.items c.args.leaves.items c.in-Ok.ensures (lexemes_of t c.args.trees.now) c.requires.lined (limits_seen c.args.limits.now) c.in-Ok-pack.packed c.in-Ok-pack.ensures in (
      subst (λ (r : RuleSystem). IsLimitAnswer (span_calculus r) (limits_seen c.args.limits.now) (leaves_from 0 ls) Within) c.requires.grammar.shapes.rules chart.within,
      c.in_ok-classes-in-Ok-pack.ensures.forest ls c.args.limits.now words lattice most trees_are chart,
    )

pub returns-in-Err-UnaryChain-clause-charted : goal.returns-in-Err-UnaryChain-clause-charted
returns-in-Err-UnaryChain-clause-charted c = λ words lattice most.
    let t = c.args.grammar.now.signs.now in
    let s = c.args.grammar.now.shapes.now in
    let fault = subst (IsPassFault (span_calculus (rules_of s)) (limits_seen c.args.limits.now) (map (leaf_seen (meaning_of s)) c.in-Ok.over.items)) c.in-Err-UnaryChain.field-0-is c.in-Err-UnaryChain.ensures in (
      c.in-Err-UnaryChain.field-0-0,
      over_answer t s c.in-Ok.over.items c.args.leaves.items c.in-Ok.ensures (lexemes_of t c.args.trees.now) c.requires.lined (limits_seen c.args.limits.now) c.requires.grammar.shapes (UnaryChain c.in-Err-UnaryChain.field-0-0) fault,
    )

pub returns-in-Err-Edges-clause-charted : goal.returns-in-Err-Edges-clause-charted
returns-in-Err-Edges-clause-charted c = λ words lattice most.
    let t = c.args.grammar.now.signs.now in
    let s = c.args.grammar.now.shapes.now in
    let fault = subst (IsPassFault (span_calculus (rules_of s)) (limits_seen c.args.limits.now) (map (leaf_seen (meaning_of s)) c.in-Ok.over.items)) c.in-Err-Edges.field-0-is c.in-Err-Edges.ensures in (
      c.in-Err-Edges.field-0-0,
      over_answer t s c.in-Ok.over.items c.args.leaves.items c.in-Ok.ensures (lexemes_of t c.args.trees.now) c.requires.lined (limits_seen c.args.limits.now) c.requires.grammar.shapes (Edges c.in-Err-Edges.field-0-0) fault,
    )
