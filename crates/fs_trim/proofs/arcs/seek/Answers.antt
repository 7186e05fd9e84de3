use Rattle.std.proofs.Common.{below_more, arith}
use Rattle.fs_trim.proofs.ArcLemmas.{feat_at}
use Rattle.fs_trim.proofs.arcs.seek.Goals as goal

pub loop-place-preserved : goal.loop-place-preserved
loop-place-preserved c =
    let low = c.loop-place-test.true in
    let e = feat_at c.args.arcs.now c.loop-place.place low in
    let t = c.if-arcs-place.false in
    record { within = omega arith; before = below_more _ _ c.loop-place.invariant.before (omega arith) }
