use Rattle.std.proofs.Common.{ℕ, ◌<◌, ◌≤◌}
use Rattle.type_hierarchy.specs.Order.{IsBelow}
use Rattle.type_hierarchy.specs.Inner.Reach.{lists}
use Rattle.type_hierarchy.proofs.faults.first_cycle.Given as goal

abbrev pub invariant-loop-t : goal.invariant-loop-t
invariant-loop-t l = (u : ℕ) → l.first ≤ u → u < l.t → IsBelow (lists l.parents) u u → ⊥
