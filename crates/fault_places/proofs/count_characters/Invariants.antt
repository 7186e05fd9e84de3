use Rattle.std.proofs.Common.{◌≡◌, ◌≤◌, not, take}
use Rattle.std.specs.List.{count_by}
use Rattle.fault_places.specs.Places.{goes_on}
use Rattle.fault_places.proofs.count_characters.Given as goal

abbrev pub invariant-loop-byte : goal.invariant-loop-byte
invariant-loop-byte l = record { value : l.characters ≡ count_by (λ b. not (goes_on b)) (take l.byte-index l.text); within : l.characters ≤ l.byte-index }
