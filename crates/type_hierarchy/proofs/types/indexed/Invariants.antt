use Rattle.std.proofs.Common.{◌≡◌, ◌++◌}
use Rattle.std.specs.Vec.Iter.{into_iter_items}
use Rattle.type_hierarchy.proofs.types.indexed.Given as goal

abbrev pub invariant-loop-row : goal.invariant-loop-row
invariant-loop-row l = l.sets.keys ++ into_iter_items l.row-iterator ≡ l.fn.rows.items
