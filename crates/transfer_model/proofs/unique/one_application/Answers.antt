use Rattle.transfer_model.proofs.Trimmed.{one_applied}
use Rattle.transfer_model.proofs.Trimming.{some_applied}
use Rattle.transfer_model.proofs.unique.one_application.Goals as goal

pub returns : goal.returns
returns c = record {
  one = λ m a b r s valid rule is h k. one_applied m a b r s h k;
  some = λ m r s valid rule is. some_applied m r s valid rule is;
}
