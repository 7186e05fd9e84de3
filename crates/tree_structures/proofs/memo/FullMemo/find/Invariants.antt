use Rattle.tree_structures.proofs.Asking.{places_left}
use Rattle.tree_structures.proofs.memo.FullMemo.find.Given as goal

abbrev pub decreases-loop-next : goal.decreases-loop-next
decreases-loop-next l = places_left l.next
