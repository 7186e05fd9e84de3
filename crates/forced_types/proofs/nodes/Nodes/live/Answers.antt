use Rattle.std.proofs.Common.{◌≡◌, arith, sym, subst}
use Rattle.fs_model.specs.Claims.{same}
use Rattle.forced_types.specs.Forced.{same_refl, same_trans}
use Rattle.forced_types.specs.Inner.Sound.{Forces, path_in, entry_in}
use Rattle.forced_types.proofs.SoundLemmas.{entry_count}
use Rattle.forced_types.proofs.nodes.Nodes.live.Goals as goal

pub loop-init : goal.loop-init
loop-init c =
    let t = c.args.self.now in
    record {
      inside = c.requires.node;
      equal = same_refl (path_in t c.args.n) (c.requires.sound.entries.each c.args.n (omega (arith, entry_count t, c.requires.node))).there;
    }

pub loop-preserved : goal.loop-preserved
loop-preserved c =
    let t = c.args.self.now in
    let at = c.requires.sound.entries.each c.loop.at (omega (arith, entry_count t, c.loop.invariant.inside)) in
    let up : c.up-up.result ≡ (entry_in t c.loop.at).up = c.up-up.ensures in
    record {
      inside = omega (arith, at.up_in, entry_count t, up);
      equal = same_trans _ _ _ c.loop.invariant.equal (subst (λ x. Forces c.args.given (same (path_in t c.loop.at) (path_in t x))) (sym up) at.up_same);
    }
