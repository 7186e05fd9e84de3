use Rattle.transfer_model.proofs.Made.{one as is_one, not_both as never}
use Rattle.transfer_model.proofs.unique.one_result.Goals as goal

pub returns : goal.returns
returns c = record {
  one = λ allows rs m a b j k valid rules h g. is_one allows rs m a b j k valid rules h g;
  not_both = λ allows rs m a j valid rules h none. never allows rs m a j valid rules h none;
}
