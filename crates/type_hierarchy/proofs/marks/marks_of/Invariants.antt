use Rattle.std.proofs.Common.{◌≡◌, ◌<◌, ℕ, [], length, slice_index, slice_index_or}
use Rattle.type_hierarchy.specs.Inner.Reach.{lists}
use Rattle.type_hierarchy.specs.Inner.Marks.{IsMark}
use Rattle.type_hierarchy.proofs.marks.marks_of.Given as goal

abbrev pub invariant-loop-row : goal.invariant-loop-row
invariant-loop-row l = (length l.marks.items ≡ l.row-index) × ((k : ℕ) → k < l.row-index → IsMark (slice_index_or (lists l.rows) k []) (slice_index l.marks.items k))
