use Rattle.std.proofs.Common.{sym}
use Rattle.scope_resolve.proofs.Sounds.{starts_plug}
use Rattle.scope_resolve.proofs.sounding.start.Goals as goal

pub returns-in-Some : goal.returns-in-Some
returns-in-Some c = starts_plug c.args.net.now c.args.trail.now c.requires.net c.requires.going c.requires.full c.args.left c.in-Some.label (sym c.in-Some.ensures)
