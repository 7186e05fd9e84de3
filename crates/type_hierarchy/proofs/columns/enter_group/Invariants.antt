use Rattle.std.proofs.Common.{◌≡◌, ◌<◌, ◌/◌, true, length, All}
use Rattle.type_hierarchy.specs.Bits.{has_bit, IsRow}
use Rattle.type_hierarchy.specs.Inner.Columns.{IsGrown}
use Rattle.type_hierarchy.specs.Inner.Reach.{lists}
use Rattle.type_hierarchy.specs.Inner.Rows.{row_at}
use Rattle.type_hierarchy.proofs.columns.enter_group.Given as goal

abbrev pub invariant-loop-place : goal.invariant-loop-place
invariant-loop-place l =
    record {
      grown : IsGrown l.initial.columns l.columns (λ x y. (x / 64 < l.place) × (y / 64 ≡ l.group) × (has_bit (row_at (lists l.rows) y) x ≡ true));
      columns_are : All (λ column. IsRow (length l.rows) column.items) l.columns;
    }
