use Rattle.std.proofs.Common.{◌+◌, ◌≤◌, length, drop, reverse}
use Rattle.side_by_side.specs.Works.{AreGiven}
use Rattle.side_by_side.specs.Inner.Posts.{IsFull}
use Rattle.side_by_side.proofs.gathering.take_out.Given as goal

abbrev pub invariant-loop-place : goal.invariant-loop-place
invariant-loop-place g l = record {
  full : IsFull (g.K.Work.Gives l._work) l._things l.places.items;
  given : AreGiven (g.K.Work.Gives l._work) (length l.places.items) (drop (length l.places.items) l._things) (reverse l.outs.items);
  room : length l.places.items + length l.outs.items ≤ l.outs.cap;
}

abbrev pub decreases-loop-place : goal.decreases-loop-place
decreases-loop-place g l = length l.places.items
