use Rattle.std.proofs.Common.{◌+◌, ◌≤◌, arith}
use Rattle.forest_unpack.specs.Inner.Memos.{known_in}
use Rattle.forest_unpack.proofs.Totals.{class_reached, sum_more, sum_none, sum_over}
use Rattle.forest_unpack.proofs.summing.sum_host.Goals as goal

pub loop-class-init : goal.loop-class-init
loop-class-init g c = sum_none (g.F.Fulls.value c.args.fulls.now) (g.F.Fulls.wholes c.args.fulls.now) c.args.cover.now c.args.classes.now

pub sum_class-requires : goal.sum_class-requires
sum_class-requires g c =
    let fulls = c.args.fulls.now in
    class_reached (g.F.Fulls.value fulls) (g.F.Fulls.wholes fulls) (g.F.Fulls.named fulls) (known_in (g.F.Fulls.value fulls) c.args._memo.now) c.args.classes.now c.loop-class.class-index c.class-item.result c.requires c.loop-class-test.true c.class-item.is

pub loop-class-preserved : goal.loop-class-preserved
loop-class-preserved g c =
    let few : c.saturating_add-sum.result ≤ c.loop-class.sum + c.in_ok-more.more = (let e = c.saturating_add-sum.ensures in omega (arith, e)) in
    sum_more (g.F.Fulls.value c.args.fulls.now) (g.F.Fulls.wholes c.args.fulls.now) c.args.cover.now c.args.classes.now c.loop-class.class-index c.loop-class.sum c.saturating_add-sum.result c.class-item.result c.in_ok-more.more c.loop-class-test.true c.class-item.is c.in_ok-more.ensures few c.loop-class.invariant

pub returns : goal.returns
returns g c = sum_over (g.F.Fulls.value c.args.fulls.now) (g.F.Fulls.wholes c.args.fulls.now) c.args.cover.now c.args.classes.now c.loop-class.class-index c.loop-class.sum c.loop-class.invariant
