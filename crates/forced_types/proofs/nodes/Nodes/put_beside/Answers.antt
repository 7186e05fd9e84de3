use Rattle.std.proofs.Common.{arith}
use Rattle.forced_types.specs.Inner.Entries.{IsTyped}
use Rattle.forced_types.specs.Inner.Sound.{path_in, entry_in}
use Rattle.forced_types.proofs.SoundLemmas.{entry_count, changed_sound, changed_keeps, typed}
use Rattle.forced_types.proofs.nodes.Nodes.put_beside.Goals as goal

pub returns-clause-sound : goal.returns-clause-sound
returns-clause-sound c =
    let t = c.args.self.now in
    let alters = c.push_type.ensures.node in
    changed_sound c.args.given t c.push_type.new.self c.args.n (λ e f. IsTyped e f c.args.ty) c.requires.sound alters c.push_type.ensures.pairs alters.here.path
    (typed c.args.given _ (path_in t) (entry_in t c.args.n) _ c.args.ty (c.requires.sound.entries.each c.args.n (omega (arith, entry_count t, c.requires.node))) alters.here c.requires.ty c.requires.forced)

pub returns-clause-keeps : goal.returns-clause-keeps
returns-clause-keeps c = changed_keeps c.args.self.now c.push_type.new.self c.args.n (λ e f. IsTyped e f c.args.ty) c.push_type.ensures.node c.push_type.ensures.node.here.path
