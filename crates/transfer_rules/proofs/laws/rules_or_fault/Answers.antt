use Rattle.transfer_rules.proofs.One.{rules_not_outside}
use Rattle.transfer_rules.proofs.laws.rules_or_fault.Goals as goal

pub returns : goal.returns
returns c = rules_not_outside
