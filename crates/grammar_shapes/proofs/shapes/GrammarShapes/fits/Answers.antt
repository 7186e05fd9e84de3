use Rattle.std.proofs.Common.{sym, subst}
use Rattle.chart_model.specs.Tuples.{shapes_of}
use Rattle.fs_model.specs.Claims.{IsBare, Has}
use Rattle.fs_model.specs.Closure.{IsConsistent}
use Rattle.fs_model.specs.Sources.{Told}
use Rattle.fs_closing.specs.Rules.{system_of}
use Rattle.fs_unify.specs.Placing.{source_of, IsPlacedIn}
use Rattle.grammar_shapes.specs.Ruled.{IsRuleIn}
use Rattle.grammar_shapes.proofs.CallLemmas.{placed_in, rule_at}
use Rattle.grammar_shapes.proofs.ShapeLemmas.{refused, unified}
use Rattle.grammar_shapes.proofs.shapes.GrammarShapes.fits.Goals as goal

pub unifies-requires-clause-bare : goal.unifies-requires-clause-bare
unifies-requires-clause-bare _ c = subst (λ g. IsBare (system_of g)) (sym c.system.ensures) c.args.self.now.bare

pub unifies-requires-clause-parts : goal.unifies-requires-clause-parts
unifies-requires-clause-parts _ c p h =
    let g = c.args.self.now.rules.grammar in
    let r = c.get.result.now in
    let is = rule_at (IsRuleIn g) c.args.self.now.rules.rules c.args.rule r c.get.ensures.value c.args.self.now.rules_in in
    subst (λ g. IsPlacedIn g p) (sym c.system.ensures)
    (placed_in g c.args.self.now.rules.restrictors c.args.self.now.rules.checks c.shapes_owe.result.now c.shapes_owe.ensures r is c.get.ensures.closed (shapes_of c.args.parts.now) c.requires.shapes p (subst (Has p) c.in-Ok.ensures h))

pub returns-in-Ok-unifies-clause-none : goal.returns-in-Ok-unifies-clause-none
returns-in-Ok-unifies-clause-none _ c clash rest ok =
    let g = c.args.self.now.rules.grammar in
    let r = c.get.result.now in
    let is = rule_at (IsRuleIn g) c.args.self.now.rules.rules c.args.rule r c.get.ensures.value c.args.self.now.rules_in in
    refused g c.args.self.now.rules.rules c.args.self.now.rules.daughters c.args.self.now.rules.restrictors c.args.self.now.rules.checks c.shapes_owe.result.now c.args.rule r c.get.ensures.value is
    (shapes_of c.args.parts.now) c.requires.shapes
    (λ k. let t = c.in-Ok-unifies.ensures.answer.1 (subst (λ g. IsConsistent (system_of g) (Told (source_of c.in-Ok.placed))) (sym c.system.ensures) (subst (λ ps. IsConsistent (system_of g) (Told (source_of ps))) (sym c.in-Ok.ensures) k)) in cc) rest ok

pub returns-in-Ok-unifies-clause-exact : goal.returns-in-Ok-unifies-clause-exact
returns-in-Ok-unifies-clause-exact _ c =
    let g = c.args.self.now.rules.grammar in
    let r = c.get.result.now in
    let is = rule_at (IsRuleIn g) c.args.self.now.rules.rules c.args.rule r c.get.ensures.value c.args.self.now.rules_in in
    let same = unified g c.args.self.now.rules.rules c.args.self.now.rules.daughters c.args.self.now.rules.restrictors c.args.self.now.rules.checks c.shapes_owe.result.now c.args.rule r c.get.ensures.value is
    (shapes_of c.args.parts.now) c.requires.shapes in (
      λ yes. same.0 (subst (λ ps. IsConsistent (system_of g) (Told (source_of ps))) c.in-Ok.ensures (subst (λ g. IsConsistent (system_of g) (Told (source_of c.in-Ok.placed))) c.system.ensures (c.in-Ok-unifies.ensures.answer.0 yes))),
      λ ok. c.in-Ok-unifies.ensures.answer.1 (subst (λ g. IsConsistent (system_of g) (Told (source_of c.in-Ok.placed))) (sym c.system.ensures) (subst (λ ps. IsConsistent (system_of g) (Told (source_of ps))) (sym c.in-Ok.ensures) (same.1 ok))),
    )
