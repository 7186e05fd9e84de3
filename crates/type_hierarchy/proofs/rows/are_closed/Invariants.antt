use Rattle.std.proofs.Common.{ℕ, ◌<◌}
use Rattle.type_hierarchy.specs.Inner.Reach.{lists}
use Rattle.type_hierarchy.specs.Inner.Rows.{row_at, IsClosedAt}
use Rattle.type_hierarchy.proofs.rows.are_closed.Given as goal

abbrev pub invariant-loop-t : goal.invariant-loop-t
invariant-loop-t l = (t : ℕ) → t < l.t → IsClosedAt (lists l.rows) (row_at (lists l.parents) t) (row_at (lists l.rows) t)
