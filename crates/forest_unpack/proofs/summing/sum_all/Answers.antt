use Rattle.std.proofs.Common.{◌+◌, ◌≤◌, arith}
use Rattle.forest_unpack.specs.Inner.Memos.{known_in}
use Rattle.forest_unpack.proofs.Products.{list_fit}
use Rattle.forest_unpack.proofs.Totals.{sums_more, sums_none, sums_over}
use Rattle.forest_unpack.proofs.summing.sum_all.Goals as goal

pub loop-want-init : goal.loop-want-init
loop-want-init g c = sums_none (g.F.Fulls.value c.args.fulls.now) (g.F.Fulls.wholes c.args.fulls.now) c.args.table.now c.args.wanted.now

pub sum_host-requires : goal.sum_host-requires
sum_host-requires g c =
    let fulls = c.args.fulls.now in
    list_fit (g.F.Fulls.value fulls) (g.F.Fulls.wholes fulls) (g.F.Fulls.named fulls) (known_in (g.F.Fulls.value fulls) c.args.memo.now) c.args.table.now c.want-item.result.host c.counted_at-classes.result.now c.counted_at-classes.ensures c.requires

pub returns-then-sum-max : goal.returns-then-sum-max
returns-then-sum-max g c = sums_over (g.F.Fulls.value c.args.fulls.now) (g.F.Fulls.wholes c.args.fulls.now) c.args.table.now c.args.wanted.now c.loop-want.want-index c.loop-want.sum c.loop-want.invariant

pub loop-want-preserved : goal.loop-want-preserved
loop-want-preserved g c =
    let few : c.saturating_add-sum.result ≤ c.loop-want.sum + c.in_ok-more.more = (let e = c.saturating_add-sum.ensures in omega (arith, e)) in
    sums_more (g.F.Fulls.value c.args.fulls.now) (g.F.Fulls.wholes c.args.fulls.now) c.args.table.now c.args.wanted.now c.loop-want.want-index c.loop-want.sum c.saturating_add-sum.result c.want-item.result c.counted_at-classes.result.now c.in_ok-more.more c.loop-want-test.true c.want-item.is c.counted_at-classes.ensures c.in_ok-more.ensures few c.loop-want.invariant

pub returns : goal.returns
returns g c = sums_over (g.F.Fulls.value c.args.fulls.now) (g.F.Fulls.wholes c.args.fulls.now) c.args.table.now c.args.wanted.now c.loop-want.want-index c.loop-want.sum c.loop-want.invariant
