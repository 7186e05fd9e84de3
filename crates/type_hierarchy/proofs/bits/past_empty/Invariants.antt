use Rattle.std.proofs.Common.{◌≡◌, ℕ, ◌*◌, ◌≤◌, ◌<◌, ◌-◌, false}
use Rattle.type_hierarchy.specs.Bits.{has_bit}
use Rattle.type_hierarchy.proofs.bits.past_empty.Given as goal

abbrev pub invariant-loop-i : goal.invariant-loop-i
invariant-loop-i l =
    record {
      low : l.word ≤ l.i;
      high : l.i ≤ l.end;
      none_before : (x : ℕ) → 64 * l.word ≤ x → x < 64 * l.i → has_bit l.words x ≡ false;
    }

abbrev pub decreases-loop-i : goal.decreases-loop-i
decreases-loop-i l = l.end - l.i
