use Rattle.std.proofs.Common.{map}
use Rattle.scope_model.specs.Answers.{plugged_of}
use Rattle.scope_resolve.proofs.Closes.{closed_none, closed_put}
use Rattle.scope_resolve.proofs.filling.close.Goals as goal

pub returns-then-not-is_sound : goal.returns-then-not-is_sound
returns-then-not-is_sound c = closed_none c.args.net.now c.args.trail.now c.requires.net c.requires.going c.requires.full c.args.max (map plugged_of c.args.out.now.items) c.is_sound.result c.is_sound.ensures c.if-not-is_sound.true

pub returns : goal.returns
returns c =
    closed_put c.args.net.now c.args.trail.now c.requires.net c.requires.going c.requires.full c.args.max _ _ _ c.is_sound.result _ c.is_sound.ensures c.if-not-is_sound.false
    c.in_ok-done.ensures.is c.in_ok-plugging.ensures c.in_ok-done.ensures.over c.in_ok-done.ensures.few
