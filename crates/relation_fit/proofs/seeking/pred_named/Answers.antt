use Rattle.relation_fit.proofs.Naming.{named_pred}
use Rattle.relation_fit.proofs.seeking.pred_named.Goals as goal

pub returns : goal.returns
returns c = named_pred c.args.types.now (record { types = c.in_ok-types_beginning.field-0; any = c.is_empty.result }) c.args.pred.now c.in_ok-types_beginning.ensures c.is_empty.ensures
