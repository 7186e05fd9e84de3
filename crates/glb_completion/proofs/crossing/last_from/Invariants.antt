use Rattle.std.proofs.Common.{◌-◌, ◌≡◌, ◌<◌, ◌≤◌, true}
use Rattle.type_hierarchy.specs.Bits.{has_bit}
use Rattle.glb_completion.proofs.crossing.last_from.Given as goal

abbrev pub invariant-loop-at : goal.invariant-loop-at
invariant-loop-at l =
    record {
      within : l.last ≤ l.end;
      next_within : l.at ≤ l.end;
      member : l.last < l.end → has_bit l.row l.last ≡ true;
      next_member : l.at < l.end → has_bit l.row l.at ≡ true;
    }

abbrev pub decreases-loop-at : goal.decreases-loop-at
decreases-loop-at l = l.end - l.at
