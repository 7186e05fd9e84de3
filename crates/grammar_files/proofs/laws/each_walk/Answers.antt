use Rattle.grammar_files.proofs.EachLemmas.{outcome_each}
use Rattle.grammar_files.proofs.laws.each_walk.Goals as goal

pub returns : goal.returns
returns c = λ files fails top settings missing.
    outcome_each (record { lexed = c.each_has_a_reading.ensures; read = c.each_has_a_reading-2.ensures }) files fails missing top settings
