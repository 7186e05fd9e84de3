use Rattle.std.proofs.Common.{◌≡◌, ◌++◌, take, All}
use Rattle.type_hierarchy.specs.Bits.{IsRow}
use Rattle.type_hierarchy.specs.Inner.Reach.{lists}
use Rattle.type_hierarchy.specs.Inner.Tables.{sets_of}
use Rattle.type_hierarchy.proofs.types.with_rows.Given as goal

abbrev pub invariant-loop-members : goal.invariant-loop-members
invariant-loop-members l =
    record {
      rows : All (λ row. IsRow l.written row.items) l.rows.items;
      sets : sets_of l.written l.rows.items ≡ sets_of l.written l.initial.rows.items ++ lists (take l.members-index l.added);
    }
