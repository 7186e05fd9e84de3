-- Slots that are for one object.
use Rattle.std.specs.Prelude.{◌≡◌, ℕ, List, All}
use Rattle.boxcar.specs.Slot.{Named}

-- each of these has this tag
abbrev pub AreTagged : List ℕ → List Named → Type 0
AreTagged tag slots = All (λ slot. slot.tag ≡ tag) slots
