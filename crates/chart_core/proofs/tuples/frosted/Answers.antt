use Rattle.std.proofs.Common.{◌∙◌, sym, length, true, false, ap, is_some}
use Rattle.chart_core.proofs.Frosted.{one_frosted, one_below}
use Rattle.chart_core.proofs.tuples.frosted.Goals as goal

pub returns-then-is_some : goal.returns-then-is_some
returns-then-is_some g c = one_frosted c.args.rows.now c.args.row c.in_ok-id.id c.index-rows-id.result true c.in_ok-id.was (one_below (length c.args.rows.now) c.args.row c.in_ok-id.id c.in_ok-id.was c.requires) c.index-rows-id.is (ap (λ r. is_some r.into) c.index-rows-id.is ∙ sym c.is_some.ensures ∙ c.if-is_some.true)

pub returns-else-is_some : goal.returns-else-is_some
returns-else-is_some g c = one_frosted c.args.rows.now c.args.row c.in_ok-id.id c.index-rows-id.result false c.in_ok-id.was (one_below (length c.args.rows.now) c.args.row c.in_ok-id.id c.in_ok-id.was c.requires) c.index-rows-id.is (ap (λ r. is_some r.into) c.index-rows-id.is ∙ sym c.is_some.ensures ∙ c.if-is_some.false)
