use Rattle.std.proofs.Common.{◌∙◌, map, ap}
use Rattle.transfer_rules.specs.declared.fault.Refusal.TheVariants.{Form}
use Rattle.transfer_rules.specs.Forms.{letters_in}
use Rattle.transfer_rules.proofs.Joining.{passed_on, letters_seen}
use Rattle.transfer_rules.proofs.building.Builder.filter_of.Goals as goal

pub returns-in_err-letters-clause-none : goal.returns-in_err-letters-clause-none
returns-in_err-letters-clause-none c = λ h forms.
    absurd (c.in_err-letters.ensures.full (passed_on c.from_residual-in_err-letters.result c.in_err-letters.field-0.0 Form c.from_residual-in_err-letters.ensures.1 h))

pub returns-clause-letters : goal.returns-clause-letters
returns-clause-letters c = c.in_ok-letters.ensures.letters ∙ ap (map (λ n. letters_in n.now)) c.deref.ensures.value ∙ letters_seen c.elements.new.names.items
