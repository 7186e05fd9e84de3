use Rattle.scope_resolve.proofs.Planning.{held_in, hole_chain}
use Rattle.scope_resolve.proofs.plan.held.Goals as goal

pub returns-clause-under : goal.returns-clause-under
returns-clause-under c = held_in c.args.net.now c.requires.net c.args.qeq c.in_ok-opening.opening c.requires.there c.in_ok-opening.ensures

pub returns-clause-chain : goal.returns-clause-chain
returns-clause-chain c = hole_chain c.args.net.now c.requires.net c.args.qeq c.in_ok-opening.opening c.requires.there c.in_ok-opening.ensures
