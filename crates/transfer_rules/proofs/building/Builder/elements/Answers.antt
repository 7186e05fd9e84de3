use Rattle.std.proofs.Common.{false}
use Rattle.transfer_model.specs.Views.{element_of}
use Rattle.transfer_rules.specs.declared.fault.Refusal.TheVariants.{Form}
use Rattle.transfer_rules.specs.Features.{IsElementForm}
use Rattle.transfer_rules.specs.Features.{IsElementOf}
use Rattle.transfer_rules.specs.Inner.Drafts.{names_seen}
use Rattle.transfer_rules.proofs.Joining.{passed_on, one_said, seen_step}
use Rattle.transfer_rules.proofs.Drafting.{element_grown}
use Rattle.transfer_rules.proofs.building.Builder.elements.Goals as goal

pub returns-in_err-element-clause-none : goal.returns-in_err-element-clause-none
returns-in_err-element-clause-none c = λ h forms.
    c.in_err-element.ensures.none (passed_on c.from_residual-in_err-element.result c.in_err-element.field-0.0 Form c.from_residual-in_err-element.ensures.1 h)
    (one_said (IsElementForm false) c.args.said.now c.loop-features.features-index c.features-item.result c.deref.result.now c.loop-features-test.true c.features-item.is c.deref.ensures.value forms)

pub loop-features-preserved : goal.loop-features-preserved
loop-features-preserved c =
    let i = c.loop-features.features-index in
    seen_step element_of IsElementOf element_grown false (names_seen c.args.names.now) (names_seen c.loop-features.names) (names_seen c.element.new.names) c.args.said.now i c.features-item.result c.deref.result.now
    c.loop-features.elements.items c.push.new.self.items c.in_ok-element.field-0 c.loop-features-test.true c.features-item.is c.deref.ensures.value c.in_ok-push.ensures.items c.loop-features.invariant c.in_ok-element.ensures.some
