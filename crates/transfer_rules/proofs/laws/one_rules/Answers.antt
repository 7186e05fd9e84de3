use Rattle.transfer_rules.proofs.One.{one_list}
use Rattle.transfer_rules.proofs.laws.one_rules.Goals as goal

pub returns : goal.returns
returns c = one_list
