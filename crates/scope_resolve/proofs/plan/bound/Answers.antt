use Rattle.scope_resolve.proofs.Planning.{bound_in}
use Rattle.scope_resolve.proofs.plan.bound.Goals as goal

pub returns : goal.returns
returns c = bound_in c.args.net.now c.requires.net c.args.binding c.in_ok-rstr.rstr c.in_ok-body.body c.requires.there c.in_ok-rstr.ensures c.in_ok-body.ensures c.if-rstr-body.false
