use Rattle.std.proofs.Common.{arith}
use Rattle.chart_workers.proofs.Steps.{takes, finds}
use Rattle.chart_workers.proofs.seat.PoolSeat.pop.Goals as goal

pub pop_as-requires-clause-fifo : goal.pop_as-requires-clause-fifo
pop_as-requires-clause-fifo c = λ _. let p = c.args.self.now.parts in let f = c.args.self.now.few in takes _ _ (omega arith)

pub pop_as-requires-clause-empty : goal.pop_as-requires-clause-empty
pop_as-requires-clause-empty c = finds _ _
