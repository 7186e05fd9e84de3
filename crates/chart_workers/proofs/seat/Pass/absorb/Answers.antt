use Rattle.chart_workers.proofs.Steps.{merges}
use Rattle.chart_workers.proofs.seat.Pass.absorb.Goals as goal

pub absorb-requires-clause-rule : goal.absorb-requires-clause-rule
absorb-requires-clause-rule c = merges _ _ _ _ c.args.self.now.some
