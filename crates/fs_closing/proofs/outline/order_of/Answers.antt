use Rattle.std.proofs.Common.{length, subst, ◌∙◌, ap, arith}
use Rattle.std.specs.Prelude.{IfSome}
use Rattle.fs_model.specs.Claims.{Has}
use Rattle.fs_closing.specs.Systems.{rules_of}
use Rattle.fs_closing.specs.Inner.Outlines.{AreMarks}
use Rattle.fs_closing.proofs.RuleRowLemmas.{rule_in}
use Rattle.fs_closing.proofs.outline.order_of.Goals as goal

pub are_marked-requires : goal.are_marked-requires
are_marked-requires c = λ j h.
    let rules = rules_of c.args.constraints.now in
    let are = subst (λ o. IfSome o (λ marks. AreMarks (rules_of c.args.constraints.now) c.deref-2.result.now marks.items)) c.in-Some.is c.in_ok-marks.ensures in
    omega (arith, rule_in rules j (subst (Has j) (c.deref-in-Some-2.ensures.value ∙ c.in_ok-places.ensures) h), are.each, ap length c.deref-in-Some.ensures.value)
