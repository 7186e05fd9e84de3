use Rattle.std.proofs.Common.{slice_index_or, arith, subst, sym}
use Rattle.fs_model.specs.Claims.{Has}
use Rattle.fs_graph.specs.declared.graph.GraphArc.{GraphArc}
use Rattle.fs_closing.proofs.HasLemmas.{Has-at}
use Rattle.forced_types.specs.Inner.Sound.{entry_in}
use Rattle.forced_types.specs.Inner.Closed.{IsArcClosed}
use Rattle.forced_types.proofs.StepLemmas.{arc_has}
use Rattle.forced_types.proofs.TypeLemmas.{at_every, one_more}
use Rattle.forced_types.proofs.nodes.Nodes.are_arcs_closed.Goals as goal

pub is_arc_closed-requires-clause-arc : goal.is_arc_closed-requires-clause-arc
is_arc_closed-requires-clause-arc c =
    let d : GraphArc = record { feat = record { 0 = 0 }; to = record { 0 = 0 } } in
    subst (Has (slice_index_or c.arcs-arcs.result.now c.loop-k.k d)) c.arcs-arcs.ensures (Has-at c.arcs-arcs.result.now c.loop-k.k d (omega (arith, c.loop-k-test.true)))

pub loop-k-preserved : goal.loop-k-preserved
loop-k-preserved c =
    let d : GraphArc = record { feat = record { 0 = 0 }; to = record { 0 = 0 } } in
    one_more (λ j. IsArcClosed c.args.given c.args.self.now c.args.n (slice_index_or c.arcs-arcs.result.now j d).feat.0 (slice_index_or c.arcs-arcs.result.now j d).to.0)
    c.loop-k.k c.loop-k.invariant (c.is_arc_closed.ensures c.if-not-is_arc_closed.false)

pub returns : goal.returns
returns c = λ _ f m e.
    let t = c.args.self.now in
    let d : GraphArc = record { feat = record { 0 = 0 }; to = record { 0 = 0 } } in
    let a = arc_has (entry_in t c.args.n).arcs f m e in
    let all = at_every c.arcs-arcs.result.now (λ (x : GraphArc). IsArcClosed c.args.given t c.args.n x.feat.0 x.to.0) d (λ k h. c.loop-k.invariant k (omega (arith, c.loop-k-test.false))) in
    subst (λ x. IsArcClosed c.args.given t c.args.n f x) a.3
    (subst (λ x. IsArcClosed c.args.given t c.args.n x a.0.to.0) a.2 (all a.0 (subst (Has a.0) (sym c.arcs-arcs.ensures) a.1)))
