use Rattle.std.proofs.Common.{refl, arith}
use Rattle.fs_closing.proofs.HasLemmas.{each_push}
use Rattle.forced_types.specs.Inner.Entries.{entries_of}
use Rattle.forced_types.specs.Inner.Sound.{IsPairSound}
use Rattle.forced_types.proofs.SoundLemmas.{entry_count, same_sound}
use Rattle.forced_types.proofs.nodes.Nodes.add_pair.Goals as goal

pub returns-clause-sound : goal.returns-clause-sound
returns-clause-sound c =
    let t = c.args.self.now in
    same_sound c.args.given t _ refl
    (each_push (IsPairSound c.args.given (entries_of t.list.items)) t.pairs.items c.push.new.self.items _ c.in_ok-push.ensures.items c.requires.sound.pairs
    (record { a_in = omega (arith, entry_count t, c.requires.a_in); b_in = omega (arith, entry_count t, c.requires.b_in); equal = c.requires.forced }))
    c.requires.sound
