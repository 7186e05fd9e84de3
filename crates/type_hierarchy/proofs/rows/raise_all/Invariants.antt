use Rattle.std.proofs.Common.{◌≡◌, length}
use Rattle.type_hierarchy.specs.Inner.Reach.{lists}
use Rattle.type_hierarchy.specs.Inner.Rows.{AreRows, HoldBelow}
use Rattle.type_hierarchy.proofs.rows.raise_all.Given as goal

abbrev pub invariant-loop-t : goal.invariant-loop-t
invariant-loop-t l =
    record {
      rows_are : AreRows l.rows;
      size : length l.rows ≡ length l.parents;
      held : HoldBelow (lists l.parents) (lists l.rows);
    }

abbrev pub decreases-loop-t : goal.decreases-loop-t
decreases-loop-t l = length l.order.items
