use Rattle.std.proofs.Common.{arith}
use Rattle.chart_workers.proofs.Steps.{puts}
use Rattle.chart_workers.proofs.seat.PoolSeat.push.Goals as goal

pub push_as-requires-clause-pushes : goal.push_as-requires-clause-pushes
push_as-requires-clause-pushes c = let p = c.args.self.now.parts in let f = c.args.self.now.few in puts _ _ _ (omega arith)
