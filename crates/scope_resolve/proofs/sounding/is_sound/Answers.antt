use Rattle.scope_resolve.proofs.Sounds.{sound_all}
use Rattle.scope_resolve.proofs.sounding.is_sound.Goals as goal

pub returns : goal.returns
returns c =
    sound_all c.args.net.now c.args.trail.now c.requires.net c.requires.going c.requires.full c.are_under.result c.are_met.result c.is_topped.result
    c.if-not-are_under.false c.are_under.ensures c.if-not-are_met.false c.are_met.ensures c.is_topped.ensures
