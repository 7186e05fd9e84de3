use Rattle.type_facts.specs.Notes.{noted}
use Rattle.constraint_expand.proofs.IntroducerLemmas.{all_writers}
use Rattle.constraint_expand.proofs.splits.introducer_of.Goals as goal

pub find_introducer-requires-clause-within : goal.find_introducer-requires-clause-within
find_introducer-requires-clause-within c =
    all_writers _ (noted c.args.writers.now.entries c.args.feature.now) c.noted.result.now c.noted.ensures c.requires.noted.within
