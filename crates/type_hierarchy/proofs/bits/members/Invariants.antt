use Rattle.std.proofs.Common.{◌≡◌, ◌≤◌, ◌<◌, ◌-◌, true}
use Rattle.type_hierarchy.specs.Bits.{has_bit, bits_below}
use Rattle.type_hierarchy.proofs.bits.members.Given as goal

abbrev pub invariant-loop-x : goal.invariant-loop-x
invariant-loop-x l =
    record {
      found : l.found.items ≡ bits_below l.x l.words;
      within : l.x ≤ l.count;
      member : l.x < l.count → has_bit l.words l.x ≡ true;
    }

abbrev pub decreases-loop-x : goal.decreases-loop-x
decreases-loop-x l = l.count - l.x
