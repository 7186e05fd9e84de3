use Rattle.std.proofs.Common.{◌<◌, length, arith, ap, subst, slice_index_or}
use Rattle.fs_model.specs.Claims.{Has}
use Rattle.fs_closing.proofs.HasLemmas.{Has-at}
use Rattle.forced_types.proofs.SoundLemmas.{entry_count}
use Rattle.forced_types.proofs.nodes.Nodes.type_at.Goals as goal

pub returns : goal.returns
returns c =
    let t = c.args.self.now in
    let i_in : c.args.i < length c.types-2.result.now = omega (arith, c.if-i-types.false, ap length c.types.ensures, ap length c.types-2.ensures) in
    let has = subst (Has (slice_index_or c.types-2.result.now c.args.i 0)) c.types-2.ensures (Has-at c.types-2.result.now c.args.i 0 i_in) in
    let at = c.requires.entries.each c.args.n (omega (arith, entry_count t, c.if-n-size.false, c.size.ensures)) in
    record {
      node = omega (arith, c.if-n-size.false, c.size.ensures);
      inside = at.type_in _ has;
      forced = at.type_forced _ has;
    }
