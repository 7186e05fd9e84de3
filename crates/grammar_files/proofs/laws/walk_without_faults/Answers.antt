use Rattle.std.proofs.Common.{Ok, Err}
use Rattle.grammar_files.proofs.LawLemmas.{outcome_moves, outcome_tells}
use Rattle.grammar_files.proofs.laws.walk_without_faults.Goals as goal

pub returns-clause-walked : goal.returns-clause-walked
returns-clause-walked c = λ files fails other top settings tree w. outcome_moves files fails other top settings (Ok tree) w tt

pub returns-clause-fault : goal.returns-clause-fault
returns-clause-fault c = λ files fails other top settings f own w. outcome_moves files fails other top settings (Err f) w own

pub returns-clause-shelf : goal.returns-clause-shelf
returns-clause-shelf c = λ files fails top settings f w. outcome_tells files fails top settings (Err f) w
