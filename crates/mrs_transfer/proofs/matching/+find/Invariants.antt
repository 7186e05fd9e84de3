use Rattle.std.proofs.Common.{◌≡◌, ◌-◌, length}
use Rattle.mrs_transfer.specs.Inner.Matching.{task_of, IsPassed}
use Rattle.mrs_transfer.proofs.matching.+find.Given as goal

abbrev pub decreases-find : goal.decreases-find
decreases-find g l = length l.sides.elements.now - length l.places.now.items

abbrev pub invariant-loop-at : goal.invariant-loop-at
invariant-loop-at g l = record {
  places : l.places.items ≡ l.fn.places.items;
  pairs : l.pairs.items ≡ l.fn.pairs.items;
  passed : IsPassed (task_of l.sides) (g.C.Choice.Answered l.choice) (g.C.Choice.Takes l.choice) l.fn.places.items l.at;
}
