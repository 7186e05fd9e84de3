use Rattle.std.proofs.Common.{arith}
use Rattle.forced_types.specs.Inner.Entries.{IsRaised}
use Rattle.forced_types.specs.Inner.Sound.{path_in, entry_in}
use Rattle.forced_types.proofs.SoundLemmas.{entry_count, changed_sound, changed_keeps, raised_up}
use Rattle.forced_types.proofs.nodes.Nodes.raise.Goals as goal

pub returns-clause-sound : goal.returns-clause-sound
returns-clause-sound c =
    let t = c.args.self.now in
    let alters = c.write_up.ensures.node in
    changed_sound c.args.given t c.write_up.new.self c.args.n (λ e f. IsRaised e f c.args.up) c.requires.sound alters c.write_up.ensures.pairs alters.here.path
    (raised_up c.args.given _ (path_in t) (entry_in t c.args.n) _ c.args.up (c.requires.sound.entries.each c.args.n (omega (arith, entry_count t, c.requires.node))) alters.here
    (omega (arith, entry_count t, c.requires.up)) c.requires.forced)

pub returns-clause-keeps : goal.returns-clause-keeps
returns-clause-keeps c = changed_keeps c.args.self.now c.write_up.new.self c.args.n (λ e f. IsRaised e f c.args.up) c.write_up.ensures.node c.write_up.ensures.node.here.path
