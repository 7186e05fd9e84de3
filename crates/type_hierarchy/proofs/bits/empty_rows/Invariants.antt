use Rattle.std.proofs.Common.{◌≤◌, ◌-◌, length, All}
use Rattle.type_hierarchy.specs.Bits.{IsRow}
use Rattle.type_hierarchy.specs.Inner.Reach.{lists}
use Rattle.type_hierarchy.specs.Inner.Rows.{AreEmpty}
use Rattle.type_hierarchy.proofs.bits.empty_rows.Given as goal

abbrev pub invariant-rows : goal.invariant-rows
invariant-rows l =
    record {
      within : length l.rows.items ≤ l.size;
      rows : All (λ row. IsRow l.count row.items) l.rows.items;
      none : AreEmpty (lists l.rows.items);
    }

abbrev pub decreases-rows : goal.decreases-rows
decreases-rows l = l.size - length l.rows.items
