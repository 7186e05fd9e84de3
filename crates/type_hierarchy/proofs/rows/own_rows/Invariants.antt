use Rattle.std.proofs.Common.{◌≡◌, length, All}
use Rattle.type_hierarchy.specs.Bits.{IsRow}
use Rattle.type_hierarchy.specs.Inner.Reach.{lists}
use Rattle.type_hierarchy.specs.Inner.Rows.{AreOwn}
use Rattle.type_hierarchy.proofs.rows.own_rows.Given as goal

abbrev pub invariant-loop-t : goal.invariant-loop-t
invariant-loop-t l =
    record {
      rows_are : All (λ row. IsRow l.count row.items) l.rows.items;
      size : length l.rows.items ≡ l.t;
      own : AreOwn (lists l.rows.items);
    }
