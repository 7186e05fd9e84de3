use Rattle.std.proofs.Common.{◌≤◌, ◌<◌, ◌-◌, length, sym, subst, arith}
use Rattle.std.proofs.lemmas.List.{get_or-map}
use Rattle.fs_graph.specs.declared.graph.GraphArc.{GraphArc}
use Rattle.fs_closing.proofs.BesideLemmas.{no_arc}
use Rattle.fs_drawing.proofs.DrawRows.{below_place, past_place}
use Rattle.fs_drawing.proofs.draw.place_of.Goals as goal

pub loop-place-init : goal.loop-place-init
loop-place-init c = record { within = omega arith; past = λ k a b. absurd (omega arith) }

pub returns-then-arcs-place-clause-before : goal.returns-then-arcs-place-clause-before
returns-then-arcs-place-clause-before c =
    let arcs = c.args.arcs.now in
    let in' : c.loop-place.place - 1 < length c.args.arcs.now = omega (arith, c.loop-place-test.true, c.loop-place.invariant.within) in
    let is = get_or-map (λ (a : GraphArc). a.feat.0) arcs (c.loop-place.place - 1) no_arc 0 in' in
    below_place arcs c.loop-place.place c.args.feat.0 c.requires c.loop-place-test.true c.loop-place.invariant.within
    (subst (λ x. x < c.args.feat.0) (sym is) c.if-arcs-place.true)

pub returns-then-arcs-place-clause-found : goal.returns-then-arcs-place-clause-found
returns-then-arcs-place-clause-found c = λ h. c.loop-place.invariant.past c.loop-place.place (omega arith) h

pub loop-place-preserved : goal.loop-place-preserved
loop-place-preserved c =
    let arcs = c.args.arcs.now in
    let in' : c.loop-place.place - 1 < length c.args.arcs.now = omega (arith, c.loop-place-test.true, c.loop-place.invariant.within) in
    let is = get_or-map (λ (a : GraphArc). a.feat.0) arcs (c.loop-place.place - 1) no_arc 0 in' in
    record {
      within = omega (arith, c.loop-place.invariant.within);
      past = past_place arcs c.loop-place.place c.args.feat.0 c.loop-place-test.true c.loop-place.invariant.past
          (subst (λ x. c.args.feat.0 ≤ x) (sym is) c.if-arcs-place.false);
    }

pub returns-clause-before : goal.returns-clause-before
returns-clause-before c = λ k h. absurd (omega arith)

pub returns-clause-found : goal.returns-clause-found
returns-clause-found c = λ h. c.loop-place.invariant.past 0 (omega (arith, c.loop-place-test.false)) h
