use Rattle.std.proofs.Common.{◌≡◌, true}
use Rattle.chart_core.specs.Kept.{core_of, rows_in}
use Rattle.forest_unpack.specs.Plans.{Grows, rank_at}
use Rattle.forest_unpack.specs.Sifted.{AreGathered}
use Rattle.forest_unpack.specs.Inner.Making.{AreMaking, IsRoot, left_of}
use Rattle.forest_unpack.specs.Inner.Memos.{StaysReady, known_in}
use Rattle.forest_unpack.proofs.listing.list.Given as goal

abbrev pub invariant-loop-list : goal.invariant-loop-list
invariant-loop-list g l =
    Grows (g.F.Fulls.value l.plan.fulls.now) l.fn.lists.table.items l.lists.table.items
    × (l.fn.lists.cut ≡ true → l.lists.cut ≡ true)
    × AreGathered (g.F.Fulls.value l.plan.fulls.now) (g.F.Fulls.wholes l.plan.fulls.now) l.plan.left l.lists.cut (rows_in (core_of l.plan.finished.now)) l.lists.table.items
    × StaysReady (g.F.Fulls.value l.plan.fulls.now) (g.F.Fulls.wholes l.plan.fulls.now) l.fn.memo l.memo l.lists.table.items
    × IsRoot l.lists.table.items l.host l.waiting.items
    × AreMaking (g.F.Fulls.value l.plan.fulls.now) (g.F.Fulls.wholes l.plan.fulls.now) l.lists.cut (rows_in (core_of l.plan.finished.now)) (known_in (g.F.Fulls.value l.plan.fulls.now) l.memo) l.lists.table.items l.plan.ranks.now l.waiting.items

abbrev pub decreases-loop-list : goal.decreases-loop-list
decreases-loop-list g l = left_of (rank_at l.plan.ranks.now l.host) l.lists.table.items l.waiting.items
