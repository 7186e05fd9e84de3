use Rattle.std.proofs.Common.{map}
use Rattle.grammar_files.specs.Placings.{placed_of}
use Rattle.type_facts.specs.Notes.{noted}
use Rattle.constraint_expand.proofs.IntroducerLemmas.{all_writers}
use Rattle.constraint_expand.proofs.SplitLemmas.{split_noted}
use Rattle.constraint_expand.proofs.splits.check_feature.Goals as goal

pub find_introducer-requires-clause-within : goal.find_introducer-requires-clause-within
find_introducer-requires-clause-within c =
    all_writers _ (noted c.args.writers.now.entries c.args.feature.now) c.noted.result.now c.noted.ensures c.requires.noted.within

pub returns-in_ok-split_fault-in-Split-clause-fault : goal.returns-in_ok-split_fault-in-Split-clause-fault
returns-in_ok-split_fault-in-Split-clause-fault c =
    split_noted c.args.types.now (map placed_of c.args.statements.now) c.noted.result.now (noted c.args.writers.now.entries c.args.feature.now) c.args.feature.now
    c.in-Split.a c.in-Split.b c.in_ok-split_fault-in-Split.field-0 c.noted.ensures c.in-Split.ensures c.in_ok-split_fault-in-Split.ensures
