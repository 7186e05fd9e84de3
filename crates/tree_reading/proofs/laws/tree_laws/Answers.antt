use Rattle.tree_reading.proofs.Firsts.{not_both, one_fault}
use Rattle.tree_reading.proofs.Single.{one_tree_of}
use Rattle.tree_reading.proofs.laws.tree_laws.Goals as goal

pub returns-clause-one : goal.returns-clause-one
returns-clause-one c = one_tree_of

pub returns-clause-apart : goal.returns-clause-apart
returns-clause-apart c = not_both

pub returns-clause-one_fault : goal.returns-clause-one_fault
returns-clause-one_fault c = one_fault
