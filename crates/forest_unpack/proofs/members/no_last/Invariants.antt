use Rattle.std.proofs.Common.{◌≡◌, ◌≤◌, ◌-◌, All, None, length}
use Rattle.forest_unpack.proofs.members.no_last.Given as goal

abbrev pub invariant-loop-last : goal.invariant-loop-last
invariant-loop-last l = (length l.last.items ≤ l.count) × All (λ o. o ≡ None) l.last.items

abbrev pub decreases-loop-last : goal.decreases-loop-last
decreases-loop-last l = l.count - length l.last.items
