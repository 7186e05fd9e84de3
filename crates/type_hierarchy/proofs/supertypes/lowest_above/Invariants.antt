use Rattle.std.proofs.Common.{◌≤◌, ◌-◌}
use Rattle.type_hierarchy.proofs.SupertypeLemmas.{IsLowest}
use Rattle.type_hierarchy.proofs.supertypes.lowest_above.Given as goal

abbrev pub invariant-loop-above : goal.invariant-loop-above
invariant-loop-above l = record { within : l.above ≤ l.completed; lowest : IsLowest l.types l.t l.nearest.items l.above l.lowest.items }

abbrev pub decreases-loop-above : goal.decreases-loop-above
decreases-loop-above l = l.completed - l.above
