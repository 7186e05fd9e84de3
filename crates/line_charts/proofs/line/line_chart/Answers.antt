use Rattle.std.proofs.Common.{length, map, sym, subst}
use Rattle.std.specs.Prelude.{string_bytes}
use Rattle.derivation.specs.Trees.{Derivation}
use Rattle.morph_analysis.specs.LatticeViews.{lattice_of, step_of}
use Rattle.tree_model.specs.Licensed.{parse_item}
use Rattle.book_signs.specs.Trees.{signs_of}
use Rattle.grammar_shapes.specs.Systems.{meaning_of}
use Rattle.rule_trees.specs.Mothers.{view_in}
use Rattle.packed_items.specs.Answers.{limits_in}
use Rattle.lexical_items.specs.Listed.{AreLexemes}
use Rattle.lexical_items.specs.Seen.{lattice_seen, step_seen}
use Rattle.grammar_rules.specs.Leafed.{leaf_trees}
use Rattle.grammar_rules.specs.Lined.{AreLined, shapes_in}
use Rattle.grammar_rules.specs.LineLeaves.{AreLineLeaves, lexemes_of}
use Rattle.line_charts.specs.Answers.{IsChartAnswer}
use Rattle.line_charts.specs.Charted.{IsCharted}
use Rattle.line_charts.specs.Views.{IsChartNamed}
use Rattle.line_charts.specs.Inner.Stages.{AreApart}
use Rattle.line_charts.specs.Inner.Hosts.{trees_in}
use Rattle.line_charts.proofs.LineSteps.{known_apart, chart_answer_by, chart_named_by}
use Rattle.line_charts.proofs.line.line_chart.Goals as goal

pub chart_over-requires-clause-apart : goal.chart_over-requires-clause-apart
chart_over-requires-clause-apart c =
    let known = subst (AreLineLeaves c.args.grammar.now.signs.now c.args.grammar.now.shapes.now c.requires.leaves.0 (lattice_of c.args.lattice.now) c.args.limits.now.lexical) c.in-Leaves.is c.requires.leaves.1 in
    subst (λ ts. AreApart (λ (d : Derivation). d) (trees_in ts)) (sym c.deref-2.ensures.value)
    (known_apart c.args.grammar.now.signs.now c.args.grammar.now.shapes.now c.requires.leaves.0 (lattice_of c.args.lattice.now) c.args.limits.now.lexical c.in-Leaves.trees.items c.in-Leaves.leaves.items known)

pub chart_over-requires-clause-lined : goal.chart_over-requires-clause-lined
chart_over-requires-clause-lined c =
    let known = subst (AreLineLeaves c.args.grammar.now.signs.now c.args.grammar.now.shapes.now c.requires.leaves.0 (lattice_of c.args.lattice.now) c.args.limits.now.lexical) c.in-Leaves.is c.requires.leaves.1 in
    subst (λ ts. AreLined (signs_of c.args.grammar.now.signs.now) (meaning_of c.args.grammar.now.shapes.now) (lexemes_of c.args.grammar.now.signs.now ts) c.in-Leaves.leaves.items) (sym c.deref-2.ensures.value) known.1

pub chart_over-requires-clause-belong : goal.chart_over-requires-clause-belong
chart_over-requires-clause-belong c =
    let known = subst (AreLineLeaves c.args.grammar.now.signs.now c.args.grammar.now.shapes.now c.requires.leaves.0 (lattice_of c.args.lattice.now) c.args.limits.now.lexical) c.in-Leaves.is c.requires.leaves.1 in
    known.2

pub returns-clause-answer : goal.returns-clause-answer
returns-clause-answer c = λ words are.
    let t = c.args.grammar.now.signs.now in
    let s = c.args.grammar.now.shapes.now in
    let g = signs_of t in
    let lattice = lattice_of c.args.lattice.now in
    let most = c.args.limits.now.lexical in
    let limits = limits_in c.args.limits.now in
    let trees = c.in-Leaves.trees.items in
    let leaves = c.in-Leaves.leaves.items in
    let types = t.book.system.types in
    let feats = map string_bytes c.args.grammar.now.feats.now in
    let us = map (λ x. step_seen (step_of x)) c.in_ok-unknown.unknown.items in
    let known = subst (AreLineLeaves t s words lattice most) c.in-Leaves.is are in
    let unknown = c.in_ok-unknown.ensures g words most (λ full. view_in t full.graph) (subst (λ ts. AreLexemes g words (lattice_seen lattice) most (lexemes_of t ts)) (sym c.deref.ensures.value) known.0.1) in
    let charted = subst (λ ts. IsCharted g (parse_item g words (lattice_seen lattice) most) limits (leaf_trees (lexemes_of t ts) (shapes_in g (meaning_of s) leaves)) types feats c.in_ok-found.found) c.deref-2.ensures.value
    (c.in_ok-found.ensures.charted words (lattice_seen lattice) most) in
    subst (IsChartAnswer g types feats words (lattice_seen lattice) most limits) (sym c.answered.ensures)
    (chart_answer_by t s words lattice most trees leaves known c.line_laws.ensures.leaves types feats limits us unknown c.in_ok-found.found charted)

pub returns-clause-named : goal.returns-clause-named
returns-clause-named c =
    let words = c.requires.leaves.0 in
    let t = c.args.grammar.now.signs.now in
    let s = c.args.grammar.now.shapes.now in
    let g = signs_of t in
    let lattice = lattice_of c.args.lattice.now in
    let most = c.args.limits.now.lexical in
    let limits = limits_in c.args.limits.now in
    let trees = c.in-Leaves.trees.items in
    let leaves = c.in-Leaves.leaves.items in
    let types = t.book.system.types in
    let feats = map string_bytes c.args.grammar.now.feats.now in
    let us = map (λ x. step_seen (step_of x)) c.in_ok-unknown.unknown.items in
    let known = subst (AreLineLeaves t s words lattice most) c.in-Leaves.is c.requires.leaves.1 in
    let unknown = c.in_ok-unknown.ensures g words most (λ full. view_in t full.graph) (subst (λ ts. AreLexemes g words (lattice_seen lattice) most (lexemes_of t ts)) (sym c.deref.ensures.value) known.0.1) in
    let charted = subst (λ ts. IsCharted g (parse_item g words (lattice_seen lattice) most) limits (leaf_trees (lexemes_of t ts) (shapes_in g (meaning_of s) leaves)) types feats c.in_ok-found.found) c.deref-2.ensures.value
    (c.in_ok-found.ensures.charted words (lattice_seen lattice) most) in
    subst (IsChartNamed types (length g.instances)) (sym c.answered.ensures)
    (chart_named_by t s words lattice most trees leaves known c.line_laws.ensures.leaves types feats limits us unknown c.in_ok-found.found c.in_ok-found.ensures.typed charted)
