use Rattle.derivation.proofs.Total.{trees_total, trees_tie}
use Rattle.derivation.proofs.order.order_is_total.Goals as goal

pub returns : goal.returns
returns c = record { total = trees_total; equal = trees_tie }
