use Rattle.transfer_model.proofs.RenumberText.{one_text}
use Rattle.transfer_model.proofs.renumbered.renumbered_text.Goals as goal

pub returns : goal.returns
returns c = λ m k to v r. one_text m k to v r
