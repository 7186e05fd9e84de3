use Rattle.realized_trees.proofs.Exact.{sieves_are_exact}
use Rattle.realized_trees.proofs.pruning.pruned_laws.Goals as goal

pub returns : goal.returns
returns c = sieves_are_exact
