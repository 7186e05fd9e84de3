use Rattle.constraint_expand.proofs.IntroducerLemmas.{writer_within, writer_at}
use Rattle.constraint_expand.proofs.introducers.find_introducer.Goals as goal

pub highest_from-x-requires-clause-writes : goal.highest_from-x-requires-clause-writes
highest_from-x-requires-clause-writes c = writer_at c.args.writers.now 0 _ c.requires.some

pub not_below-requires-clause-top : goal.not_below-requires-clause-top
not_below-requires-clause-top c = writer_within _ c.args.writers.now c.requires.within c.highest_from-x.result.0 c.highest_from-x.ensures.highest.writes
