use Rattle.std.proofs.Common.{◌≡◌, ℕ, take}
use Rattle.type_hierarchy.specs.Bits.{has_bit, IsRow}
use Rattle.type_hierarchy.specs.Table.{has_member}
use Rattle.type_hierarchy.proofs.rows.row_of.Given as goal

abbrev pub invariant-loop-x : goal.invariant-loop-x
invariant-loop-x l =
    record {
      row : IsRow l.count l.row.items;
      has : (y : ℕ) → has_bit l.row.items y ≡ has_member (take l.x-index l.members) y;
    }
