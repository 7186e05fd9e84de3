use Rattle.std.proofs.Common.{◌≤◌, ◌<◌, ◌+◌, ◌-◌, ◌/◌, length, sym, subst, arith}
use Rattle.std.proofs.lemmas.List.{get_or-map}
use Rattle.fs_graph.specs.declared.graph.GraphArc.{GraphArc}
use Rattle.fs_closing.proofs.BesideLemmas.{no_arc}
use Rattle.fs_drawing.proofs.DrawRows.{below_upto, past_from}
use Rattle.fs_drawing.proofs.draw.place_by_halves.Goals as goal

pub loop-low-preserved-then-arcs-middle : goal.loop-low-preserved-then-arcs-middle
loop-low-preserved-then-arcs-middle c =
    let arcs = c.args.arcs.now in
    let m = c.loop-low.low + (c.loop-low.high - c.loop-low.low) / 2 in
    let less : c.loop-low.low + (c.loop-low.high - c.loop-low.low) / 2 < c.loop-low.high = omega (arith, c.loop-low-test.true) in
    let in' : c.loop-low.low + (c.loop-low.high - c.loop-low.low) / 2 < length c.args.arcs.now = omega (arith, less, c.loop-low.invariant.within) in
    let is = get_or-map (λ (a : GraphArc). a.feat.0) arcs m no_arc 0 in' in
    record {
      order = omega (arith, less);
      within = c.loop-low.invariant.within;
      before = below_upto arcs m c.args.feat.0 c.requires in' (subst (λ x. x < c.args.feat.0) (sym is) c.if-arcs-middle.true);
      past = c.loop-low.invariant.past;
    }

pub loop-low-preserved : goal.loop-low-preserved
loop-low-preserved c =
    let arcs = c.args.arcs.now in
    let m = c.loop-low.low + (c.loop-low.high - c.loop-low.low) / 2 in
    let less : c.loop-low.low + (c.loop-low.high - c.loop-low.low) / 2 < c.loop-low.high = omega (arith, c.loop-low-test.true) in
    let in' : c.loop-low.low + (c.loop-low.high - c.loop-low.low) / 2 < length c.args.arcs.now = omega (arith, less, c.loop-low.invariant.within) in
    let is = get_or-map (λ (a : GraphArc). a.feat.0) arcs m no_arc 0 in' in
    record {
      order = omega arith;
      within = omega (arith, in');
      before = c.loop-low.invariant.before;
      past = past_from arcs m c.args.feat.0 c.requires (subst (λ x. c.args.feat.0 ≤ x) (sym is) c.if-arcs-middle.false);
    }
