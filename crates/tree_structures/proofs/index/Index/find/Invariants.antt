use Rattle.std.proofs.Common.{◌≤◌}
use Rattle.tree_structures.proofs.index.Index.find.Given as goal

abbrev pub invariant-loop-next : goal.invariant-loop-next
invariant-loop-next l = l.limit ≤ l.fn.end

abbrev pub decreases-loop-next : goal.decreases-loop-next
decreases-loop-next l = l.limit
