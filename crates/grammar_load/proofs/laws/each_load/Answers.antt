use Rattle.grammar_load.proofs.EachLoad.{load_each}
use Rattle.grammar_load.proofs.laws.each_load.Goals as goal

pub returns : goal.returns
returns c = λ files fails top settings missing expands. load_each files fails top settings (c.each_read.ensures files fails top settings missing) expands
