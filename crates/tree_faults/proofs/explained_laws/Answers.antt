use Rattle.tree_faults.proofs.Licensing.{explained_is_licensed, nodes_are_free}
use Rattle.tree_faults.proofs.OneExplanation.{explained_are_one}
use Rattle.tree_faults.proofs.explained_laws.Goals as goal

pub returns : goal.returns
returns c = record { licensed = explained_is_licensed; free = nodes_are_free; one = explained_are_one }
