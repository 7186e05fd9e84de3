use Rattle.std.proofs.Common.{arith}
use Rattle.chart_workers.proofs.Steps.{takes}
use Rattle.chart_workers.proofs.seat.Door.steal.Goals as goal

pub steal_as-requires-clause-takes : goal.steal_as-requires-clause-takes
steal_as-requires-clause-takes g c = let o = c.loop.self.one in takes _ _ (omega arith)
