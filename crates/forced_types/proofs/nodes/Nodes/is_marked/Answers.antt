use Rattle.std.proofs.Common.{◌≤◌, slice_index_or, arith, subst, sym}
use Rattle.fs_model.specs.Claims.{Has}
use Rattle.fs_graph.specs.declared.graph.GraphArc.{GraphArc}
use Rattle.fs_closing.proofs.HasLemmas.{Has-at}
use Rattle.forced_types.specs.Inner.Sound.{entry_in}
use Rattle.forced_types.specs.Inner.Search.{IsGoal, stepped, mark_at}
use Rattle.forced_types.proofs.StepLemmas.{arc_has}
use Rattle.forced_types.proofs.TypeLemmas.{at_every, one_more}
use Rattle.forced_types.proofs.nodes.Nodes.is_marked.Goals as goal

pub is_arc_marked-requires-clause-arc : goal.is_arc_marked-requires-clause-arc
is_arc_marked-requires-clause-arc c =
    let d : GraphArc = record { feat = record { 0 = 0 }; to = record { 0 = 0 } } in
    subst (Has (slice_index_or c.arcs-arcs.result.now c.loop-k.k d)) c.arcs-arcs.ensures (Has-at c.arcs-arcs.result.now c.loop-k.k d (omega (arith, c.loop-k-test.true)))

pub loop-k-preserved : goal.loop-k-preserved
loop-k-preserved c =
    let t = c.args.self.now in
    let marks = c.args.marks.now in
    let d : GraphArc = record { feat = record { 0 = 0 }; to = record { 0 = 0 } } in
    one_more (λ j. mark_at marks c.args.n ≤ stepped c.args.aim (mark_at marks (entry_in t (slice_index_or c.arcs-arcs.result.now j d).to.0).up))
    c.loop-k.k c.loop-k.invariant (c.is_arc_marked.ensures c.if-not-is_arc_marked.false)

pub returns : goal.returns
returns c = λ _.
    let t = c.args.self.now in
    let n = c.args.n in
    let marks = c.args.marks.now in
    let d : GraphArc = record { feat = record { 0 = 0 }; to = record { 0 = 0 } } in
    record {
      goal = λ h. let low = c.is_low.ensures c.if-not-is_low.false h in omega arith;
      last = λ h.
          let low = c.is_low-2.ensures c.if-not-is_low-2.false (subst (λ x. IsGoal c.args.given t c.args.aim n x) (sym c.most.ensures) h) in
          omega (arith, c.most.ensures);
      arcs = λ f m e.
          let a = arc_has (entry_in t n).arcs f m e in
          let all = at_every c.arcs-arcs.result.now (λ (x : GraphArc). mark_at marks n ≤ stepped c.args.aim (mark_at marks (entry_in t x.to.0).up)) d
          (λ k h. c.loop-k.invariant k (omega (arith, c.loop-k-test.false))) in
          subst (λ x. mark_at marks n ≤ stepped c.args.aim (mark_at marks (entry_in t x).up)) a.3 (all a.0 (subst (Has a.0) (sym c.arcs-arcs.ensures) a.1));
    }
