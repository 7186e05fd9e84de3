use Rattle.std.proofs.Common.{All}
use Rattle.forest_unpack.specs.Inner.Classes.{IsFit, classes_at}
use Rattle.forest_unpack.specs.Inner.Memos.{Learned, known_in}
use Rattle.forest_unpack.proofs.Totals.{RowsOf}
use Rattle.forest_unpack.proofs.tallying.count_host.Given as goal

abbrev pub invariant-loop-row : goal.invariant-loop-row
invariant-loop-row g l =
    Learned (g.F.Fulls.value l.plan.fulls.now) (g.F.Fulls.wholes l.plan.fulls.now) l.fn.memo l.memo
    × All (IsFit (g.F.Fulls.value l.plan.fulls.now) (g.F.Fulls.wholes l.plan.fulls.now) (g.F.Fulls.named l.plan.fulls.now) (known_in (g.F.Fulls.value l.plan.fulls.now) l.memo)) l.made.items
    × RowsOf (g.F.Fulls.value l.plan.fulls.now) (g.F.Fulls.wholes l.plan.fulls.now) (classes_at (g.F.Fulls.value l.plan.fulls.now) l.table) l.row-items l.row-index l.made.items
