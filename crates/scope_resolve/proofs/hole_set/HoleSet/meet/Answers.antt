use Rattle.scope_resolve.proofs.Sets.{met}
use Rattle.scope_resolve.proofs.hole_set.HoleSet.meet.Goals as goal

pub returns : goal.returns
returns c = met c.args.self c.args.other
