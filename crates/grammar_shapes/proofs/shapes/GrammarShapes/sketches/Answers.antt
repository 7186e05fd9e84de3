use Rattle.std.proofs.Common.{◌≡◌, ◌-◌, ◌∙◌, ap, sym, subst, length, Some, arith}
use Rattle.chart_model.specs.Tuples.{parts_of, shapes_of}
use Rattle.type_hierarchy.specs.Table.{count_of}
use Rattle.fs_graph.specs.GraphMap.{IsGraph, reader_of}
use Rattle.tree_model.specs.Mothers.{arity_at}
use Rattle.sieve.specs.Sketches.{AreTypesIn, sketch_of, below_place}
use Rattle.sieve.specs.Unifying.{NoneUnify}
use Rattle.grammar_shapes.specs.Ruled.{places_of, rule_of, IsRuleIn}
use Rattle.grammar_shapes.specs.Shaped.{graph_of, BelongsIn}
use Rattle.grammar_shapes.specs.Systems.{rules_of}
use Rattle.grammar_shapes.proofs.PartLemmas.{same_length}
use Rattle.grammar_shapes.proofs.ShapeLemmas.{map_get}
use Rattle.grammar_shapes.proofs.CallLemmas.{rule_at}
use Rattle.grammar_shapes.proofs.TableLemmas.{some_at, types_in}
use Rattle.grammar_shapes.proofs.SketchLemmas.{none_refused}
use Rattle.grammar_shapes.proofs.shapes.GrammarShapes.sketches.Goals as goal

pub at-requires-clause-place : goal.at-requires-clause-place
at-requires-clause-place _ c r at =
    let arity = ap (arity_at (rules_of c.args.self.now)) (map_get (rule_of c.args.self.now.rules.grammar) c.args.self.now.rules.rules c.args.rule r at) in
    omega (arith, c.requires.some, c.requires.short, arity)

pub returns-clause-daughter : goal.returns-clause-daughter
returns-clause-daughter _ c =
    let g = c.args.self.now.rules.grammar in
    let checks = c.args.self.now.rules.checks in
    let part = c.in-Some.part.now in
    let at = map_get (λ p. p.shape) (parts_of c.args.parts.now) (c.args.parts.now.count - 1) part (sym c.in-Some.ensures) in
    let is = rule_at (BelongsIn g c.args.self.now.rules.restrictors checks) (shapes_of c.args.parts.now) (c.args.parts.now.count - 1) part.shape at c.requires.shapes in
    let graph = subst (λ p. IsGraph p.graph) c.deref-daughter.ensures c.laws.ensures in
    subst (AreTypesIn g.types) (sym (ap (λ p. p.sketch) c.deref-daughter.ensures ∙ is.sketched)) (types_in (count_of g.types) (length g.introducers) (graph_of part.shape) graph is.short.graph_in (λ p. p) checks)

pub returns-clause-exact : goal.returns-clause-exact
returns-clause-exact _ c r place last at place_at last_at =
    let g = c.args.self.now.rules.grammar in
    let checks = c.args.self.now.rules.checks in
    let part = c.in-Some.part.now in
    let k = c.args.parts.now.count - 1 in
    let at_last = map_get (λ p. p.shape) (parts_of c.args.parts.now) k part (sym c.in-Some.ensures) in
    let is = rule_at (BelongsIn g c.args.self.now.rules.restrictors checks) (shapes_of c.args.parts.now) k part.shape at_last c.requires.shapes in
    let same : Some part.shape ≡ Some last = sym at_last ∙ last_at in
    let one : part.shape ≡ last = cc in
    (c.at.ensures.sketch r place at place_at, ap (λ p. p.sketch) c.deref-daughter.ensures ∙ is.sketched ∙ ap (λ s. sketch_of (reader_of (graph_of s)) checks) one)

pub returns-clause-apart : goal.returns-clause-apart
returns-clause-apart gen c none rest ok =
    let g = c.args.self.now.rules.grammar in
    let rules = c.args.self.now.rules.rules in
    let checks = c.args.self.now.rules.checks in
    let part = c.in-Some.part.now in
    let last = c.args.parts.now.count - 1 in
    let at = map_get (λ p. p.shape) (parts_of c.args.parts.now) last part (sym c.in-Some.ensures) in
    let rule = some_at rules c.args.rule (let n = same_length (rule_of g) rules in omega (arith, n, c.requires.rule_is)) in
    let arity = ap (arity_at (rules_of c.args.self.now)) (map_get (rule_of g) rules c.args.rule rule.0 rule.1) in
    let place = some_at (places_of rule.0) last (omega (arith, c.requires.some, c.requires.short, arity)) in
    let are = returns-clause-exact gen c rule.0 place.0 part.shape rule.1 place.1 at in
    none_refused g rules c.args.self.now.rules.daughters c.args.self.now.rules.restrictors checks c.args.rule rule.0 rule.1
    (rule_at (IsRuleIn g) rules c.args.rule rule.0 rule.1 c.args.self.now.rules_in) (shapes_of c.args.parts.now) c.requires.shapes last place.0 part.shape place.1 at
    (subst (λ b. NoneUnify g.types (sketch_of (below_place place.0 (reader_of rule.0.structure.now)) checks) b) are.1 (subst (λ a. NoneUnify g.types a c.deref-daughter.result.now.sketch) are.0 none)) rest ok
