use Rattle.std.proofs.Common.{◌≡◌, ◌≤◌, ◌-◌, [], All, length}
use Rattle.forest_unpack.proofs.summing.no_classes.Given as goal

abbrev pub invariant-loop-alloc : goal.invariant-loop-alloc
invariant-loop-alloc g l = (length l.table.items ≤ l.count) × All (λ made. made.items ≡ []) l.table.items

abbrev pub decreases-loop-alloc : goal.decreases-loop-alloc
decreases-loop-alloc g l = l.count - length l.table.items
