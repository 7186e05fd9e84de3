use Rattle.std.proofs.Common.{All, length, map}
use Rattle.forest_unpack.specs.Items.{full_values}
use Rattle.forest_unpack.specs.Inner.Classes.{IsFit, classes_at}
use Rattle.forest_unpack.specs.Inner.Memos.{Learned, known_in}
use Rattle.forest_unpack.proofs.Products.{EachOf}
use Rattle.forest_unpack.proofs.tallying.+count_all.Given as goal

abbrev pub decreases-count_all : goal.decreases-count_all
decreases-count_all g l = length l.rest.now

abbrev pub invariant-loop-class : goal.invariant-loop-class
invariant-loop-class g l =
    Learned (g.F.Fulls.value l.by.fulls.now) (g.F.Fulls.wholes l.by.fulls.now) l.fn.memo l.memo
    × All (IsFit (g.F.Fulls.value l.by.fulls.now) (g.F.Fulls.wholes l.by.fulls.now) (g.F.Fulls.named l.by.fulls.now) (known_in (g.F.Fulls.value l.by.fulls.now) l.memo)) l.made.items
    × EachOf (g.F.Fulls.value l.by.fulls.now) (g.F.Fulls.wholes l.by.fulls.now) l.by.rule (full_values (g.F.Fulls.value l.by.fulls.now) l.picked.chosen) l.picked.times (map (classes_at (g.F.Fulls.value l.by.fulls.now) l.by.table.now) l.more) l.class-items l.class-index l.fn.made.items l.made.items
