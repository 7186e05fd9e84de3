use Rattle.std.proofs.Common.{◌≡◌, ◌≤◌, take, drop}
use Rattle.fault_places.specs.Places.{last_part}
use Rattle.fault_places.proofs.last_begin.Given as goal

abbrev pub invariant-loop-i : goal.invariant-loop-i
invariant-loop-i l = record { within : l.begin ≤ l.i; value : drop l.begin (take l.i l.text) ≡ last_part (take l.i l.text) }
