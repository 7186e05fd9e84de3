use Rattle.chart_rows.proofs.workers.saturated.Goals as goal

pub decide-requires-clause-core : goal.decide-requires-clause-core
decide-requires-clause-core g c = (c.args.shapes.now, c.in_ok-finished.ensures.core)
