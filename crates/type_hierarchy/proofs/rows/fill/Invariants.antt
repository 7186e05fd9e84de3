use Rattle.std.proofs.Common.{◌≡◌, length}
use Rattle.type_hierarchy.specs.Inner.Reach.{lists}
use Rattle.type_hierarchy.specs.Inner.Rows.{AreRows}
use Rattle.type_hierarchy.proofs.RowLemmas.{Filled}
use Rattle.type_hierarchy.proofs.rows.fill.Given as goal

abbrev pub invariant-loop-t : goal.invariant-loop-t
invariant-loop-t l =
    record {
      rows : AreRows l.rows;
      size : length l.rows ≡ length l.parents;
      filled : Filled (lists l.parents) (lists l.rows) l.t;
    }
