use Rattle.std.proofs.Common.{◌∙◌, sym, take}
use Rattle.std.specs.Prelude.{reverse}
use Rattle.scope_resolve.proofs.Scans.{by_here}
use Rattle.scope_resolve.proofs.trail.Trail.is_by_bodies.Goals as goal

pub returns-then-above-at : goal.returns-then-above-at
returns-then-above-at c =
    let net = c.args.net.now in
    sym (c.loop-left.invariant.scan ∙ by_here net.owner.items net.is_body.items c.args.above c.loop-left.at (reverse (take c.loop-left.left c.args.self.now.plugs.items)) c.if-above-at.true)
