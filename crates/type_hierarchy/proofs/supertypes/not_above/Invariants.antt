use Rattle.std.proofs.Common.{◌≡◌, filter, not, take}
use Rattle.type_hierarchy.specs.Table.{is_below}
use Rattle.type_hierarchy.proofs.supertypes.not_above.Given as goal

abbrev pub invariant-loop-above : goal.invariant-loop-above
invariant-loop-above l = l.lower.items ≡ filter (λ u. not (is_below l.types l.t u)) (take l.above-index l.lowest)
