use Rattle.std.proofs.Common.{Err, ap}
use Rattle.transfer_rules.specs.declared.fault.Refusal.TheVariants.{Form}
use Rattle.transfer_rules.proofs.Taking.{err_back}
use Rattle.transfer_rules.proofs.elements.Draft.take_label.Goals as goal

pub returns-in_err-name-clause-none : goal.returns-in_err-name-clause-none
returns-in_err-name-clause-none c = λ e. c.in_err-name.ensures.none (ap Err (err_back c.from_residual.result c.in_err-name.field-0.0 Form c.from_residual.ensures.1 e))
