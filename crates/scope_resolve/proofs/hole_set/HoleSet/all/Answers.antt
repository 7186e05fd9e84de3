use Rattle.scope_resolve.proofs.Sets.{every_has}
use Rattle.scope_resolve.proofs.hole_set.HoleSet.all.Goals as goal

pub returns-clause-has : goal.returns-clause-has
returns-clause-has c = every_has
