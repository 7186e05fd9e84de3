use Rattle.transfer_rules.proofs.Whole.{all_whole}
use Rattle.transfer_rules.proofs.laws.all_rules.Goals as goal

pub returns : goal.returns
returns c = all_whole
