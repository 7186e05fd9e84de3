use Rattle.transfer_model.proofs.RenumberRuns.{result_valid}
use Rattle.transfer_model.proofs.renumbered.valid_result.Goals as goal

pub returns : goal.returns
returns c = λ allows rs m a j v p. result_valid allows rs m a j v p
