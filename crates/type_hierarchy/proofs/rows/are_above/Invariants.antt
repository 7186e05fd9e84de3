use Rattle.std.proofs.Common.{ℕ, ◌≡◌, ◌<◌, true, slice_index_or}
use Rattle.type_hierarchy.specs.Bits.{has_bit}
use Rattle.type_hierarchy.specs.Inner.Reach.{lists}
use Rattle.type_hierarchy.specs.Inner.Rows.{row_at}
use Rattle.type_hierarchy.proofs.rows.are_above.Given as goal

abbrev pub invariant-loop-parent : goal.invariant-loop-parent
invariant-loop-parent l = (i x : ℕ) → i < l.parent-index → has_bit l.row x ≡ true → has_bit (row_at (lists l.rows) (slice_index_or l.parents i 0)) x ≡ true
