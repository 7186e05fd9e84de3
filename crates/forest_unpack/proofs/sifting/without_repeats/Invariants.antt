use Rattle.std.proofs.Common.{length}
use Rattle.forest_unpack.specs.Inner.Memos.{known_in}
use Rattle.forest_unpack.proofs.Repeats.{Sifting}
use Rattle.forest_unpack.proofs.sifting.without_repeats.Given as goal

abbrev pub invariant-loop-item : goal.invariant-loop-item
invariant-loop-item g l =
    Sifting (g.F.Fulls.value l._fulls) (known_in (g.F.Fulls.value l._fulls) l._memo) l.fn.made.items l.items.items l.kept.items

abbrev pub decreases-loop-item : goal.decreases-loop-item
decreases-loop-item g l = length l.items.items
