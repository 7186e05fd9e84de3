-- The faults of texts.
use Rattle.std.specs.Prelude.{ℕ, ◌≡◌, ◌⊎◌, List, length}
use Rattle.std.specs.Str.{encode_utf8_all}
use Rattle.mrs_spelling.specs.Faults.{FirstFault}
use Rattle.mrs_reading.specs.declared.lines.MrsFault.{MrsFault}
use Rattle.mrs_reading.specs.declared.lines.MrsFault.TheVariants.{At, NoMemory}
use Rattle.mrs_reading.specs.Places.{IsText}

pub record IsFaultAt (cs : List ℕ) (at : ℕ) : Type 0 where
  pub front : List ℕ
  pub first : FirstFault cs front
  pub at_is : at ≡ length (encode_utf8_all front)

abbrev pub IsFaultOf : List ℕ → MrsFault → Type 0
IsFaultOf cs (At at) = IsFaultAt cs at
IsFaultOf cs NoMemory = Unit {0}

-- the same, or they are a text of n bytes
abbrev pub IsFrontFault : List ℕ → ℕ → MrsFault → Type 0
IsFrontFault cs n (At at) = IsFaultAt cs at ⊎ (IsText cs × (at ≡ n))
IsFrontFault cs n NoMemory = Unit {0}
