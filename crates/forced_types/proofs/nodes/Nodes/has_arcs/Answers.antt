use Rattle.std.proofs.Common.{slice_index_or, arith}
use Rattle.fs_graph.specs.declared.graph.GraphArc.{GraphArc}
use Rattle.forced_types.specs.Inner.Told.{IsArcTold}
use Rattle.forced_types.proofs.TypeLemmas.{at_every, one_more}
use Rattle.forced_types.proofs.nodes.Nodes.has_arcs.Goals as goal

pub loop-k-preserved : goal.loop-k-preserved
loop-k-preserved c =
    let d : GraphArc = record { feat = record { 0 = 0 }; to = record { 0 = 0 } } in
    one_more (λ j. IsArcTold c.args.given c.args.self.now c.args.spots.now c.args.n (slice_index_or c.args.arcs.now j d)) c.loop-k.k c.loop-k.invariant (c.has_arc.ensures c.if-not-has_arc.false)

pub returns : goal.returns
returns c = λ _.
    let d : GraphArc = record { feat = record { 0 = 0 }; to = record { 0 = 0 } } in
    at_every c.args.arcs.now (IsArcTold c.args.given c.args.self.now c.args.spots.now c.args.n) d (λ k h. c.loop-k.invariant k (omega (arith, c.loop-k-test.false)))
