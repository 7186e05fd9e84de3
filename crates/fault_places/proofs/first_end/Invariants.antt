use Rattle.std.proofs.Common.{ℕ, ◌≡◌, ◌<◌, false, get_or}
use Rattle.fault_places.specs.Places.{is_end}
use Rattle.fault_places.proofs.first_end.Given as goal

abbrev pub invariant-loop-i : goal.invariant-loop-i
invariant-loop-i l = (k : ℕ) → k < l.i → is_end (get_or l.text k 0) ≡ false
