use Rattle.scope_resolve.proofs.Sounds.{under_first, under_second}
use Rattle.scope_resolve.proofs.sounding.is_under.Goals as goal

pub returns-then-is_on_way : goal.returns-then-is_on_way
returns-then-is_on_way c = under_first c.args.net.now c.args.trail.now c.requires.net c.requires.going c.args.binding c.is_on_way.result c.is_on_way.ensures c.if-is_on_way.true

pub returns : goal.returns
returns c = under_second c.args.net.now c.args.trail.now c.requires.net c.requires.going c.args.binding c.is_on_way.result c.is_on_way-2.result c.is_on_way.ensures c.if-is_on_way.false c.is_on_way-2.ensures
