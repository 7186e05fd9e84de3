use Rattle.std.proofs.Common.{arith}
use Rattle.chart_model.proofs.Within.{each_within}
use Rattle.chart_model.proofs.counts.sums.Goals as goal

pub overflow_add-count : goal.overflow_add-count
overflow_add-count c =
    let cs = c.args.left.now in
    let ds = c.args.right.now in
    let bs = c.args._bound.now in
    let i = c.loop-place.place in
    let h = each_within cs ds bs i c.requires.left c.requires.right (omega arith) c.requires.fit in
    let t = c.type_inv._bound i in
    omega (arith, h, t)
