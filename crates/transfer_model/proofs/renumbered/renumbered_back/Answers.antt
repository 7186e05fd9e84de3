use Rattle.transfer_model.proofs.RenumberBack.{renumbered_back}
use Rattle.transfer_model.proofs.renumbered.renumbered_back.Goals as goal

pub returns : goal.returns
returns c = λ m k to v r. renumbered_back m k to v r
