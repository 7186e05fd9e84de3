use Rattle.transfer_rules.proofs.One.{one_first}
use Rattle.transfer_rules.proofs.laws.one_outside.Goals as goal

pub returns : goal.returns
returns c = one_first
