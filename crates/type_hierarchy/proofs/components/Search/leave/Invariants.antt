use Rattle.std.proofs.Common.{length}
use Rattle.type_hierarchy.proofs.components.Search.leave.Given as goal

abbrev pub decreases-loop-t : goal.decreases-loop-t
decreases-loop-t l = length l.self.open.items
