use Rattle.std.proofs.Common.{◌≡◌, ◌≤◌, ◌<◌, ℕ, length, slice_index_or}
use Rattle.std.specs.Cmp.Lexicographic.{slice_cmp}
use Rattle.std.specs.Ordering.{nat_cmp}
use Rattle.std.specs.String.{string_bytes}
use Rattle.std.specs.declared.cmp.Ordering.TheVariants.{Greater}
use Rattle.transfer_rules.proofs.elements.place_of.Given as goal

abbrev pub invariant-loop-at : goal.invariant-loop-at
invariant-loop-at l = (l.at ≤ length l.roles) × ((k : ℕ) → l.at ≤ k → k < length l.roles → slice_cmp nat_cmp (string_bytes (slice_index_or l.roles k l.role).name) (string_bytes l.role.name) ≡ Greater)

abbrev pub decreases-loop-at : goal.decreases-loop-at
decreases-loop-at l = l.at
