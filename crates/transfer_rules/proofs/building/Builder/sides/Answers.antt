use Rattle.std.proofs.Common.{false, All, map, subst, sym}
use Rattle.transfer_rules.specs.declared.fault.Refusal.TheVariants.{Form}
use Rattle.transfer_rules.specs.Features.{IsElementForm}
use Rattle.transfer_rules.specs.Inner.Views.{features_seen, parts_of}
use Rattle.transfer_rules.proofs.Joining.{passed_on}
use Rattle.transfer_rules.proofs.Ruled.{input_forms, context_forms}
use Rattle.transfer_rules.proofs.building.Builder.sides.Goals as goal

pub returns-in_err-elements-clause-none : goal.returns-in_err-elements-clause-none
returns-in_err-elements-clause-none c = λ h forms.
    c.in_err-elements.ensures.none (passed_on c.from_residual.result c.in_err-elements.field-0.0 Form c.from_residual.ensures.1 h)
    (subst (λ xs. All (IsElementForm false) (map features_seen xs)) (sym c.deref.ensures.value) (input_forms (parts_of c.args.parts.now) forms))

pub returns-in_err-context-clause-none : goal.returns-in_err-context-clause-none
returns-in_err-context-clause-none c = λ h forms.
    c.in_err-context.ensures.none (passed_on c.from_residual-in_err-context.result c.in_err-context.field-0.0 Form c.from_residual-in_err-context.ensures.1 h)
    (subst (λ xs. All (IsElementForm false) (map features_seen xs)) (sym c.deref-2.ensures.value) (context_forms (parts_of c.args.parts.now) forms))
