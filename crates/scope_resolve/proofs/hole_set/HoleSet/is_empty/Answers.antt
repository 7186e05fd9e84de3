use Rattle.scope_resolve.proofs.Sets.{empty}
use Rattle.scope_resolve.proofs.hole_set.HoleSet.is_empty.Goals as goal

pub returns : goal.returns
returns c = empty c.args.self c.well_formed.0.1.1.0.1
