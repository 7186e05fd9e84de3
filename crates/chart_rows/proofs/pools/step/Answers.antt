use Rattle.std.proofs.Common.{◌∙◌, ap}
use Rattle.std.proofs.Math.Seq.{map-set_same}
use Rattle.chart_workers.specs.Pools.{seat_post}
use Rattle.chart_rows.proofs.pools.step.Goals as goal

pub returns : goal.returns
returns g c = map-set_same seat_post c.args.seats.now.items c.long_number-at.result c.call.new.seat c.index_mut-seat.result.now (c.call.ensures ∙ ap seat_post c.index_mut-seat.ensures.value)
