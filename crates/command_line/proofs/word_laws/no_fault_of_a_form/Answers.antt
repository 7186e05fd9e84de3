use Rattle.command_line.proofs.Ends.{faultless}
use Rattle.command_line.proofs.word_laws.no_fault_of_a_form.Goals as goal

pub returns : goal.returns
returns c = faultless
