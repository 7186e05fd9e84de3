use Rattle.chart_core.specs.CoreView.{chart_of, leaves_of}
use Rattle.chart_core.specs.Kept.{core_of}
use Rattle.forest_unpack.specs.Inner.Memos.{known_in}
use Rattle.forest_unpack.proofs.Totals.{empty_counted, empty_fit}
use Rattle.forest_unpack.proofs.summing.count_hosts.Goals as goal

pub loop-ranked-init : goal.loop-ranked-init
loop-ranked-init g c =
    let fulls = c.args.plan.now.fulls.now in
    let value = g.F.Fulls.value fulls in
    let w = g.F.Fulls.wholes fulls in
    let core = core_of c.args.plan.now.finished.now in (
      c.requires.memo,
      empty_fit value w (g.F.Fulls.named fulls) (known_in value c.args.memo.now) c.in_ok-table.table.items c.in_ok-table.ensures,
      empty_counted value w (leaves_of (g.S.Shapes.meaning c.args.shapes.now) core) (chart_of (g.S.Shapes.meaning c.args.shapes.now) core) c.in_ok-table.table.items c.in_ok-table.ensures,
    )

pub loop-ranked-preserved : goal.loop-ranked-preserved
loop-ranked-preserved g c = (c.in_ok-count_into.ensures.memo, c.in_ok-count_into.ensures.fit, c.in_ok-count_into.ensures.counted)
