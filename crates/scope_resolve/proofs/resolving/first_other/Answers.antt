use Rattle.std.proofs.Common.{◌<◌, ◌≤◌, length, arith}
use Rattle.scope_resolve.proofs.Each.{each_more}
use Rattle.scope_resolve.proofs.Resolves.{Qeq_at, all_qeq, other_here}
use Rattle.scope_resolve.proofs.resolving.first_other.Goals as goal

pub returns-then-not-is_qeq : goal.returns-then-not-is_qeq
returns-then-not-is_qeq c =
    let l : c.loop-k.k < length c.args.hcons.now = omega (arith, c.loop-k-test.true) in
    other_here c.args.hcons.now c.loop-k.k c.index-hcons-k.result c.is_qeq.result l c.index-hcons-k.is c.is_qeq.ensures c.if-not-is_qeq.true c.loop-k.invariant

pub loop-k-preserved : goal.loop-k-preserved
loop-k-preserved c =
    let l : c.loop-k.k < length c.args.hcons.now = omega (arith, c.loop-k-test.true) in
    each_more Qeq_at c.args.hcons.now c.loop-k.k c.index-hcons-k.result l c.index-hcons-k.is c.loop-k.invariant (c.is_qeq.ensures.0 c.if-not-is_qeq.false)

pub returns : goal.returns
returns c =
    let l : length c.args.hcons.now ≤ c.loop-k.k = omega (arith, c.loop-k-test.false) in
    all_qeq c.args.hcons.now c.loop-k.k l c.loop-k.invariant
