use Rattle.std.proofs.Common.{arith}
use Rattle.chart_core.proofs.Tally.{tally_zero, tally_some}
use Rattle.chart_core.proofs.counting.least_size.Goals as goal

pub loop-low-init : goal.loop-low-init
loop-low-init g c =
    let many = c.if-count-limit.false in
    let count = c.count.ensures in
    let none = tally_zero g.S.Cover.Cover.extent c.args.least c.args.most c.args.rows.now in
    record {
      apart = tally_some g.S.Cover.Cover.extent c.args.least c.args.most c.args.limit c.args.below c.args.rows.now (omega (arith, many, count));
      inside = omega arith;
      few = omega (arith, none);
      many = omega (arith, many, count);
    }
