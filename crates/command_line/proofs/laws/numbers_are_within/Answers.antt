use Rattle.command_line.proofs.Ranges.{form-within, size-within}
use Rattle.command_line.proofs.laws.numbers_are_within.Goals as goal

pub returns-clause-options : goal.returns-clause-options
returns-clause-options c = form-within

pub returns-clause-workload : goal.returns-clause-workload
returns-clause-workload c = size-within
