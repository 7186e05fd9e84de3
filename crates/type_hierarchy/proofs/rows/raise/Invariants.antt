use Rattle.type_hierarchy.specs.Inner.Reach.{lists}
use Rattle.type_hierarchy.specs.Inner.Rows.{AreRows, IsRaised}
use Rattle.type_hierarchy.proofs.rows.raise.Given as goal

abbrev pub invariant-loop-parent : goal.invariant-loop-parent
invariant-loop-parent l = record { rows_are : AreRows l.rows; raised : IsRaised (lists l.initial.rows) (lists l.rows) l.parents l.row }
