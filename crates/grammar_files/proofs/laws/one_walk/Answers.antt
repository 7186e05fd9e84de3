use Rattle.grammar_files.proofs.OneLemmas.{outcome_one}
use Rattle.grammar_files.proofs.laws.one_walk.Goals as goal

pub returns : goal.returns
returns c =
    outcome_one (record { lexed = c.one_reading.ensures; statements = c.one_reading-2.ensures.statements; faults = c.one_reading-2.ensures.faults; not_both = c.one_reading-2.ensures.not_both })
