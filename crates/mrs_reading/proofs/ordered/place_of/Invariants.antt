use Rattle.std.proofs.Common.{◌≡◌, ◌≤◌, ◌<◌, ℕ, length, slice_index_or}
use Rattle.std.specs.Cmp.Lexicographic.{slice_cmp}
use Rattle.std.specs.Ordering.{nat_cmp}
use Rattle.std.specs.declared.cmp.Ordering.TheVariants.{Greater}
use Rattle.mrs_reading.proofs.ordered.place_of.Given as goal

abbrev pub invariant-loop-at : goal.invariant-loop-at
invariant-loop-at g l = (l.at ≤ length l.list) × ((k : ℕ) → l.at ≤ k → k < length l.list → slice_cmp nat_cmp (g.T.Named.name_of (slice_index_or l.list k l.item)) (g.T.Named.name_of l.item) ≡ Greater)

abbrev pub decreases-loop-at : goal.decreases-loop-at
decreases-loop-at g l = l.at
