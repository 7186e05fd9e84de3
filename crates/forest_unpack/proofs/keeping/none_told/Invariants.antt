use Rattle.std.proofs.Common.{◌≡◌, ◌≤◌, ◌-◌, All, None, length}
use Rattle.forest_unpack.proofs.keeping.none_told.Given as goal

abbrev pub invariant-loop-told : goal.invariant-loop-told
invariant-loop-told l = (length l.told.items ≤ l.count) × All (λ o. o ≡ None) l.told.items

abbrev pub decreases-loop-told : goal.decreases-loop-told
decreases-loop-told l = l.count - length l.told.items
