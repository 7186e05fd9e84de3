use Rattle.transfer_model.proofs.Places.{one_site as is_one, one_least}
use Rattle.transfer_model.proofs.unique.one_site.Goals as goal

pub returns : goal.returns
returns c = record {
  vars = λ m r s t valid rule h k e. is_one m r s t valid rule h k e;
  least = λ allows n m r s t valid rule h k. one_least allows n m r s t valid rule h k;
}
