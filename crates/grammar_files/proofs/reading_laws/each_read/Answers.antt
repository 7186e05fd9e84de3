use Rattle.grammar_files.proofs.ReadingLawLemmas.{read_each}
use Rattle.grammar_files.proofs.reading_laws.each_read.Goals as goal

pub returns : goal.returns
returns c = λ files fails top settings missing. read_each files fails top settings missing (c.each_walk.ensures files fails top settings missing)
