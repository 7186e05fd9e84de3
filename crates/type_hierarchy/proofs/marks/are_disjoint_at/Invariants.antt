use Rattle.std.proofs.Common.{◌≡◌, ◌<◌, ◌-◌, ◌+◌, ◌%◌, ℕ, length, slice_index, bit_and}
use Rattle.type_hierarchy.proofs.marks.are_disjoint_at.Given as goal

abbrev pub invariant-loop-i : goal.invariant-loop-i
invariant-loop-i l = (l.i % 64 ≡ l.bit) × ((k : ℕ) → k < l.i → k % 64 ≡ l.bit → bit_and (slice_index l.a k) (slice_index l.b k) ≡ 0)

abbrev pub decreases-loop-i : goal.decreases-loop-i
decreases-loop-i l = length l.a + 64 - l.i
