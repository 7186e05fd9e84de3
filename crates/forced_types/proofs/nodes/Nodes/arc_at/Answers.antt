use Rattle.std.proofs.Common.{◌<◌, length, arith, ap, subst, slice_index_or}
use Rattle.fs_model.specs.Claims.{Has}
use Rattle.fs_closing.proofs.HasLemmas.{Has-at}
use Rattle.fs_graph.specs.declared.graph.GraphArc.{GraphArc}
use Rattle.forced_types.proofs.SoundLemmas.{entry_count}
use Rattle.forced_types.proofs.nodes.Nodes.arc_at.Goals as goal

pub returns : goal.returns
returns c =
    let t = c.args.self.now in
    let d : GraphArc = record { feat = record { 0 = 0 }; to = record { 0 = 0 } } in
    let i_in : c.args.i < length c.arcs-2.result.now = omega (arith, c.if-i-arcs.false, ap length c.arcs.ensures, ap length c.arcs-2.ensures) in
    let has = subst (Has (slice_index_or c.arcs-2.result.now c.args.i d)) c.arcs-2.ensures (Has-at c.arcs-2.result.now c.args.i d i_in) in
    let at = c.requires.entries.each c.args.n (omega (arith, entry_count t, c.if-n-size.false, c.size.ensures)) in
    record {
      node = omega (arith, c.if-n-size.false, c.size.ensures);
      to_in = let h = (at.arc_in _ has).0 in omega (arith, entry_count t);
      feat_in = (at.arc_in _ has).1;
      forced = at.arc_forced _ has;
    }
