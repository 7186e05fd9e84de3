use Rattle.grammar_files.proofs.ReadingLawLemmas.{read_one}
use Rattle.grammar_files.proofs.reading_laws.one_read.Goals as goal

pub returns : goal.returns
returns c = λ files top settings r q a b. read_one files top settings r q (c.one_walk.ensures files top settings) a b
