use Rattle.scope_resolve.specs.Inner.Nets.{frame_in}
use Rattle.scope_resolve.proofs.Planning.{root_chain}
use Rattle.scope_resolve.proofs.plan.Plan.put_free.Goals as goal

pub returns : goal.returns
returns c = λ old. c.in_ok-put_from_root.ensures (frame_in c.args.net.now.parts) (root_chain c.args.net.now c.requires.net c.args.qeq c.requires.there c.requires.label c.if-qeq-net.false) old
