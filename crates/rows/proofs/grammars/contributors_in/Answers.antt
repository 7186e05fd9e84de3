use Rattle.rows.proofs.grammars.contributors_in.Goals as goal

pub contributors_of-requires-clause-paths : goal.contributors_of-requires-clause-paths
contributors_of-requires-clause-paths c = c.laws.ensures.paths.are

pub contributors_of-requires-clause-have : goal.contributors_of-requires-clause-have
contributors_of-requires-clause-have c = c.laws.ensures.have

pub contributors_of-requires-clause-bound : goal.contributors_of-requires-clause-bound
contributors_of-requires-clause-bound c = c.requires.ready.loaded.spelled
