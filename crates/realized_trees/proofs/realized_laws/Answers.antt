use Rattle.realized_trees.proofs.Wholes.{wholly_accepted}
use Rattle.realized_trees.proofs.realized_laws.Goals as goal

pub returns : goal.returns
returns c = wholly_accepted
