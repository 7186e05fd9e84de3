use Rattle.std.proofs.Common.{◌<◌, ◌+◌, length, slice_index, sym, ap, arith}
use Rattle.std.proofs.lemmas.List.{get_or-map}
use Rattle.fs_graph.specs.declared.graph.GraphArc.{GraphArc}
use Rattle.fs_graph.specs.Visits.{plan_of}
use Rattle.fs_graph.proofs.HeightLemmas.{above_more}
use Rattle.fs_graph.proofs.visit.height_above.Goals as goal

pub bounds-heights-arcs : goal.bounds-heights-arcs
bounds-heights-arcs c =
    let i = c.loop-i.i in
    let to = c.requires.able.plan.to_in c.args.node c.loop-i.i c.requires.node (c.loop-i.invariant.from, c.loop-i-test.true) in
    let inside = c.requires.able.inside (c.args.node + 1) (omega (arith, c.requires.node)) in
    let i_in : c.loop-i.i < length c.args.arcs.now = omega (arith, inside, c.loop-i-test.true) in
    let is = get_or-map (λ (a : GraphArc). a.to.0) c.args.arcs.now c.loop-i.i (record { feat = record { 0 = 0 }; to = record { 0 = 0 } }) 0 i_in in
    omega (arith, to, is)

pub loop-i-preserved : goal.loop-i-preserved
loop-i-preserved c =
    let hs = c.args.heights.now in
    let inside = c.requires.able.inside (c.args.node + 1) (omega (arith, c.requires.node)) in
    let i_in : c.loop-i.i < length c.args.arcs.now = omega (arith, inside, c.loop-i-test.true) in
    let is = get_or-map (λ (a : GraphArc). a.to.0) c.args.arcs.now c.loop-i.i (record { feat = record { 0 = 0 }; to = record { 0 = 0 } }) 0 i_in in
    record {
      above = above_more (plan_of (length hs) c.args.starts.now c.args.arcs.now) (slice_index hs) c.args.node c.loop-i.i c.loop-i.height c.in_ok-height.height _
          c.loop-i.invariant.from c.loop-i.invariant.above (ap (slice_index hs) (sym is)) c.in_ok-height.ensures;
      from = omega (arith, c.loop-i.invariant.from);
    }
