use Rattle.std.proofs.Common.{◌≤◌}
use Rattle.type_hierarchy.specs.Bits.{IsRow}
use Rattle.glb_completion.proofs.SpreadLemmas.{IsNearing}
use Rattle.glb_completion.proofs.spread.near.Given as goal

abbrev pub invariant-loop-x : goal.invariant-loop-x
invariant-loop-x l =
    record {
      within : l.x ≤ l.h.written;
      row : IsRow l.h.written l.near.items;
      nearing : IsNearing l.h l.set l.near.items l.x;
    }

abbrev pub decreases-loop-x : goal.decreases-loop-x
decreases-loop-x l = l.x
