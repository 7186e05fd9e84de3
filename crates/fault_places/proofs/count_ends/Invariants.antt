use Rattle.std.proofs.Common.{◌≡◌, ◌≤◌, take}
use Rattle.std.specs.List.{count_by}
use Rattle.fault_places.specs.Places.{is_end}
use Rattle.fault_places.proofs.count_ends.Given as goal

abbrev pub invariant-loop-byte : goal.invariant-loop-byte
invariant-loop-byte l = record { value : l.ends ≡ count_by is_end (take l.byte-index l.text); within : l.ends ≤ l.byte-index }
