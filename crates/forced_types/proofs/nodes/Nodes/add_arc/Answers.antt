use Rattle.std.proofs.Common.{arith}
use Rattle.forced_types.specs.Inner.Entries.{IsArced}
use Rattle.forced_types.specs.Inner.Sound.{path_in, entry_in}
use Rattle.forced_types.proofs.SoundLemmas.{entry_count, changed_sound, changed_keeps, arced}
use Rattle.forced_types.proofs.nodes.Nodes.add_arc.Goals as goal

pub returns-clause-sound : goal.returns-clause-sound
returns-clause-sound c =
    let t = c.args.self.now in
    let alters = c.push_arc.ensures.node in
    changed_sound c.args.given t c.push_arc.new.self c.args.n (λ e f. IsArced e f c.args.arc) c.requires.sound alters c.push_arc.ensures.pairs alters.here.path
    (arced c.args.given _ (path_in t) (entry_in t c.args.n) _ c.args.arc (c.requires.sound.entries.each c.args.n (omega (arith, entry_count t, c.requires.node))) alters.here
    (omega (arith, entry_count t, c.requires.to)) c.requires.feat c.requires.lacks c.requires.forced)

pub returns-clause-keeps : goal.returns-clause-keeps
returns-clause-keeps c = changed_keeps c.args.self.now c.push_arc.new.self c.args.n (λ e f. IsArced e f c.args.arc) c.push_arc.ensures.node c.push_arc.ensures.node.here.path
