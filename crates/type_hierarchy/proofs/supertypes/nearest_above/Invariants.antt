use Rattle.std.proofs.Common.{◌≤◌}
use Rattle.type_hierarchy.specs.Bits.{IsRow}
use Rattle.type_hierarchy.specs.Table.{completed_count}
use Rattle.type_hierarchy.proofs.NearestLemmas.{IsReaching}
use Rattle.type_hierarchy.proofs.supertypes.nearest_above.Given as goal

abbrev pub invariant-loop-x : goal.invariant-loop-x
invariant-loop-x l =
    record {
      within : l.x ≤ completed_count l.types;
      nearest_row : IsRow (completed_count l.types) l.nearest.items;
      passed_row : IsRow (completed_count l.types) l.passed.items;
      reaching : IsReaching l.types l.t l.nearest.items l.passed.items l.x;
    }

abbrev pub decreases-loop-x : goal.decreases-loop-x
decreases-loop-x l = l.x
