use Rattle.rows.proofs.grammars.StepsUseVecU8Unit.run.Goals as goal

pub take_all-requires-clause-ready : goal.take_all-requires-clause-ready
take_all-requires-clause-ready g c κs within =
    record {
      limits = c.defaults-limits.ensures;
      engine = c.requires.ready;
      paths = c.laws.ensures.paths;
      contributors = c.in_ok-contributors.ensures;
    }
