use Rattle.std.proofs.Common.{◌≡◌, ◌-◌, length, true}
use Rattle.chart_core.specs.Kept.{core_of, rows_in}
use Rattle.forest_unpack.specs.Inner.Making.{IsMaking}
use Rattle.forest_unpack.specs.Inner.Memos.{StaysReady, known_in}
use Rattle.forest_unpack.proofs.listing.go_on.Given as goal

abbrev pub invariant-loop-list : goal.invariant-loop-list
invariant-loop-list g l =
    (l.list.host ≡ l.fn.list.host)
    × (l.fn.cut ≡ true → l.cut ≡ true)
    × StaysReady (g.F.Fulls.value l.plan.fulls.now) (g.F.Fulls.wholes l.plan.fulls.now) l.fn.memo l.memo l.table
    × IsMaking (g.F.Fulls.value l.plan.fulls.now) (g.F.Fulls.wholes l.plan.fulls.now) l.cut (rows_in (core_of l.plan.finished.now)) (known_in (g.F.Fulls.value l.plan.fulls.now) l.memo) l.table l.list

abbrev pub decreases-loop-list : goal.decreases-loop-list
decreases-loop-list g l = length l.list.group.items - l.list.next
