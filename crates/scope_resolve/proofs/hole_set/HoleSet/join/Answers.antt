use Rattle.scope_resolve.proofs.Sets.{joined}
use Rattle.scope_resolve.proofs.hole_set.HoleSet.join.Goals as goal

pub returns : goal.returns
returns c = joined c.args.self c.args.other
