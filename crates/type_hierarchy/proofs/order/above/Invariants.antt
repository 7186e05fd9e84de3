use Rattle.std.proofs.Common.{◌+◌, ◌*◌, length}
use Rattle.type_hierarchy.specs.Inner.Reach.{lists}
use Rattle.type_hierarchy.proofs.ReachLemmas.{Reaching, unmarked}
use Rattle.type_hierarchy.proofs.order.above.Given as goal

abbrev pub invariant-loop-x : goal.invariant-loop-x
invariant-loop-x l = Reaching (lists l.parents) l.from l.seen.items l.stack.items

abbrev pub decreases-loop-x : goal.decreases-loop-x
decreases-loop-x l = 2 * unmarked l.seen.items + length l.stack.items
