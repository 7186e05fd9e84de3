use Rattle.std.proofs.Common.{◌≡◌, ℕ, ◌<◌, slice_index, bit_and}
use Rattle.type_hierarchy.proofs.bits.is_subset.Given as goal

abbrev pub invariant-loop-i : goal.invariant-loop-i
invariant-loop-i l = (k : ℕ) → k < l.i → bit_and (slice_index l.a k) (slice_index l.b k) ≡ slice_index l.a k
