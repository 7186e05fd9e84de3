use Rattle.chart_rows.proofs.worker.advance_after.Goals as goal

pub enter_tested-requires-clause-verdicts : goal.enter_tested-requires-clause-verdicts
enter_tested-requires-clause-verdicts g c = c.in_ok-tested.ensures.right c.args.core.now c.advance.new.core c.args.cover.now 0 c.requires.core c.advance.ensures.core c.in_ok-advance.ensures.later c.in_ok-peers.ensures.hosts
