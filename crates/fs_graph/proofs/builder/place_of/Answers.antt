use Rattle.std.proofs.Common.{below_more, arith}
use Rattle.std.proofs.lemmas.List.{get_or-map}
use Rattle.fs_graph.proofs.builder.place_of.Goals as goal

pub loop-i-init : goal.loop-i-init
loop-i-init c = λ k h. absurd (omega arith)

pub returns-then-arc-feat-clause-before : goal.returns-then-arc-feat-clause-before
returns-then-arc-feat-clause-before c = c.loop-i.invariant

pub returns-then-arc-feat-clause-found : goal.returns-then-arc-feat-clause-found
returns-then-arc-feat-clause-found c = λ h.
    let e = get_or-map (λ a. a.feat.0) c.args.arcs.now c.loop-i.i (record { feat = record { 0 = 0 }; to = record { 0 = 0 } }) 0 c.loop-i-test.true in
    let t = c.if-arc-feat.true in
    omega arith

pub loop-i-preserved : goal.loop-i-preserved
loop-i-preserved c =
    let e = get_or-map (λ a. a.feat.0) c.args.arcs.now c.loop-i.i (record { feat = record { 0 = 0 }; to = record { 0 = 0 } }) 0 c.loop-i-test.true in
    let t = c.if-arc-feat.false in
    below_more _ _ c.loop-i.invariant (omega arith)

pub returns-clause-before : goal.returns-clause-before
returns-clause-before c = λ k h. c.loop-i.invariant k (let a = c.loop-i-test.false in omega arith)
