use Rattle.chart_core.specs.CoreView.{chart_of, leaves_of}
use Rattle.chart_core.specs.Kept.{core_of}
use Rattle.forest_unpack.specs.Inner.Classes.{AreAllCounted, AreFit}
use Rattle.forest_unpack.specs.Inner.Memos.{IsMemo, known_in}
use Rattle.forest_unpack.proofs.summing.count_hosts.Given as goal

abbrev pub invariant-loop-ranked : goal.invariant-loop-ranked
invariant-loop-ranked g l =
    IsMemo (g.F.Fulls.value l.plan.fulls.now) (g.F.Fulls.wholes l.plan.fulls.now) l.memo
    × AreFit (g.F.Fulls.value l.plan.fulls.now) (g.F.Fulls.wholes l.plan.fulls.now) (g.F.Fulls.named l.plan.fulls.now) (known_in (g.F.Fulls.value l.plan.fulls.now) l.memo) l.table.items
    × AreAllCounted (g.F.Fulls.value l.plan.fulls.now) (g.F.Fulls.wholes l.plan.fulls.now) (leaves_of (g.S.Shapes.meaning l.shapes) (core_of l.plan.finished.now)) (chart_of (g.S.Shapes.meaning l.shapes) (core_of l.plan.finished.now)) l.table.items
