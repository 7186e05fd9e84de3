use Rattle.std.proofs.Common.{sym, subst, [], ◌∷◌}
use Rattle.std.specs.Prelude.{IfSome, option_map}
use Rattle.chart_model.specs.Tuples.{shapes_of}
use Rattle.fs_model.specs.Claims.{Has}
use Rattle.fs_model.specs.Closure.{IsConsistent}
use Rattle.fs_model.specs.Sources.{Told}
use Rattle.fs_graph.specs.GraphMap.{reader_of}
use Rattle.fs_closing.specs.Rules.{system_of}
use Rattle.fs_unify.specs.Owing.{IsWellFormedBut}
use Rattle.fs_unify.specs.Placing.{source_of}
use Rattle.fs_trim.specs.Cutting.{owed_of, IsShort}
use Rattle.tree_model.specs.Views.{IsTrimmed}
use Rattle.grammar_shapes.specs.Ruled.{IsRuleIn}
use Rattle.grammar_shapes.proofs.CallLemmas.{placed_in, rule_at, whole}
use Rattle.grammar_shapes.proofs.ShapeLemmas.{refused_whole}
use Rattle.grammar_shapes.proofs.shapes.GrammarShapes.apply.Goals as goal

pub trimmed-requires-clause-parts : goal.trimmed-requires-clause-parts
trimmed-requires-clause-parts _ c p h =
    let g = c.args.self.now.rules.grammar in
    let r = c.get.result.now in
    let is = rule_at (IsRuleIn g) c.args.self.now.rules.rules c.args.rule r c.get.ensures.value c.args.self.now.rules_in in
    placed_in g c.args.self.now.rules.restrictors c.args.self.now.rules.checks c.shapes_owe.result.now c.shapes_owe.ensures r is c.get.ensures.closed (shapes_of c.args.parts.now) c.requires.parts.shapes p (subst (Has p) c.in-Ok.ensures h)

pub shape_of-requires-in-Ok-Some-clause-owes : goal.shape_of-requires-in-Ok-Some-clause-owes
shape_of-requires-in-Ok-Some-clause-owes _ c =
    let s = system_of c.args.self.now.rules.grammar in
    let facts = owed_of c.args.self.now.rules.restrictors in
    subst (λ o. IfSome o (λ k. IsWellFormedBut s (reader_of k) facts)) c.in-Ok-Some.field-0-is c.in-Ok-Some.ensures.owes

pub returns-in-Ok-Some-clause-mother : goal.returns-in-Ok-Some-clause-mother
returns-in-Ok-Some-clause-mother _ c =
    let g = c.args.self.now.rules.grammar in
    let d = c.args.self.now.rules.daughters in
    let l = c.args.self.now.rules.restrictors in
    let r = c.get.result.now in
    let is = rule_at (IsRuleIn g) c.args.self.now.rules.rules c.args.rule r c.get.ensures.value c.args.self.now.rules_in in
    let known = subst (λ o. IfSome o (IsShort g)) c.in-Ok-Some.field-0-is c.in-Ok-Some.ensures.known in
    let made = subst (λ o. IsTrimmed (system_of g) (source_of c.in-Ok.placed) (d ∷ []) l (option_map reader_of o)) c.in-Ok-Some.field-0-is c.in-Ok-Some.ensures.answer in
    whole g c.args.self.now.rules.rules d l c.args.self.now.rules.checks c.shapes_owe.result.now c.args.rule r c.get.ensures.value is (shapes_of c.args.parts.now) c.requires.parts.shapes
    c.in_ok-shape_of-in-Ok-Some.field-0 c.in-Ok-Some.graph c.in_ok-shape_of-in-Ok-Some.ensures.graph known c.in-Ok.placed c.in-Ok.ensures made

pub returns-in-Ok-None-clause-mother : goal.returns-in-Ok-None-clause-mother
returns-in-Ok-None-clause-mother _ c ok =
    let g = c.args.self.now.rules.grammar in
    let d = c.args.self.now.rules.daughters in
    let l = c.args.self.now.rules.restrictors in
    let r = c.get.result.now in
    let is = rule_at (IsRuleIn g) c.args.self.now.rules.rules c.args.rule r c.get.ensures.value c.args.self.now.rules_in in
    let none = subst (λ o. IsTrimmed (system_of g) (source_of c.in-Ok.placed) (d ∷ []) l (option_map reader_of o)) c.in-Ok-None.field-0-is c.in-Ok-None.ensures.answer in
    refused_whole g c.args.self.now.rules.rules d l c.args.self.now.rules.checks c.shapes_owe.result.now c.args.rule r c.get.ensures.value is (shapes_of c.args.parts.now) c.requires.parts.shapes
    (λ k. none (subst (λ ps. IsConsistent (system_of g) (Told (source_of ps))) (sym c.in-Ok.ensures) k)) ok
