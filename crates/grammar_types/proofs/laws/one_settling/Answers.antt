use Rattle.grammar_types.proofs.SettleOne.{one_table, one_fault, not_both}
use Rattle.grammar_types.proofs.laws.one_settling.Goals as goal

pub returns-clause-tables : goal.returns-clause-tables
returns-clause-tables c = one_table

pub returns-clause-faults : goal.returns-clause-faults
returns-clause-faults c = one_fault

pub returns-clause-not_both : goal.returns-clause-not_both
returns-clause-not_both c = not_both
