use Rattle.std.proofs.Common.{length}
use Rattle.side_by_side.specs.Inner.Posts.{AreFilled}
use Rattle.side_by_side.proofs.gathering.put_all.Given as goal

abbrev pub invariant-loop-one : goal.invariant-loop-one
invariant-loop-one g l = AreFilled (g.K.Work.Gives l._work) l._things l.places.items l.done.items

abbrev pub decreases-loop-one : goal.decreases-loop-one
decreases-loop-one g l = length l.done.items
