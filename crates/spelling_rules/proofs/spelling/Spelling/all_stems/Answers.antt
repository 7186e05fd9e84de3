use Rattle.std.proofs.Common.{arith, ◌≡◌, ◌∙◌, ◌<◌, ◌≤◌, length, map, refl, sym, ap, subst}
use Rattle.std.proofs.lemmas.List.{length-map}
use Rattle.spelling_rules.specs.Forms.{AreStemsUnder}
use Rattle.spelling_rules.specs.Views.{stems_in, rule_of}
use Rattle.spelling_rules.proofs.spelling.Spelling.all_stems.Goals as goal

pub returns : goal.returns
returns c =
    let all : c.loop-rule.rule ≡ length c.args.self.now.rules = omega (arith, c.rules-rule-end.ensures, c.loop-rule.auto.rule-end, c.loop-rule-test.false) in
    subst (λ n. AreStemsUnder c.args.self.now n c.args.form.now (stems_in c.loop-rule.out)) all c.loop-rule.invariant
