-- All readings, in order; the fault of an MRS; the lines that are written.
use Rattle.std.specs.Prelude.{ℕ, ◌≡◌, ◌≢◌, ◌<◌, ◌≤◌, ◌+◌, ◌↔◌, List, [], ◌∷◌, ◌++◌, length, map, All, Contains, Some, take, codes, Result, Ok, Err}
use Rattle.std.specs.List.{slice_get, flat_map}
use Rattle.std.specs.declared.cmp.Ordering.TheVariants.{Less}
use Rattle.std.specs.Cmp.Lexicographic.{slice_cmp}
use Rattle.std.specs.Ordering.{nat_cmp}
use Rattle.std.specs.Fmt.{decimal}
use Rattle.mrs_model.specs.Meanings.{Constraint, Meaning}
use Rattle.scope_model.specs.declared.Plugging.{Plugging}
use Rattle.scope_model.specs.declared.ScopeFault.{ScopeFault}
use Rattle.scope_model.specs.declared.ScopeFault.TheVariants.{Relation, ReadingLimit, NoMemory}
use Rattle.scope_model.specs.Numbers.{in_order}
use Rattle.scope_model.specs.Frames.{Frame, frame_of}
use Rattle.scope_model.specs.declared.Plug.{Plug}
use Rattle.scope_model.specs.Readings.{Plugged, IsReading}

-- what a plugging of the program stands for
abbrev pub plug_of : ℕ × ℕ → Plug
plug_of s = record { hole = s.0; label = s.1 }

abbrev pub plugged_of : Plugging → Plugged
plugged_of p = record { top = p.top; plugs = map plug_of p.holes.items }

-- readings are ordered by these numbers
abbrev pub key_of : Plugged → List ℕ
key_of p = p.top ∷ map (λ s. s.label) p.plugs

-- each comes before the next one
abbrev pub Rises : List Plugged → Type 0
Rises [] = Unit {0}
Rises (p ∷ []) = Unit {0}
Rises (p ∷ q ∷ ps) = (slice_cmp nat_cmp (key_of p) (key_of q) ≡ Less) × Rises (q ∷ ps)

-- exactly the readings of a frame, each once, in order
pub record AreReadings (f : Frame) (ps : List Plugged) : Type 0 where
  pub order : Rises ps
  pub every : (p : Plugged) → Contains ps p ↔ IsReading f p

abbrev pub IsQeq : Constraint → Type 0
IsQeq c = c.rel ≡ codes "qeq"

-- the first constraint that isn't `qeq` stands at this place
pub record IsFirstOther (m : Meaning) (place : ℕ) : Type 0 where
  pub constraint : Constraint
  pub there : slice_get m.hcons place ≡ Some constraint
  pub other : constraint.rel ≢ codes "qeq"
  pub before : All IsQeq (take place m.hcons)

-- the frame of an MRS, in the numbers of its text
abbrev pub frame : Meaning → Frame
frame m = frame_of (in_order m)

-- all constraints are `qeq`, and some readings, each once, are more than `max`
pub record IsOver (m : Meaning) (max : ℕ) : Type 0 where
  pub qeqs : All IsQeq m.hcons
  pub some : List Plugged
  pub order : Rises some
  pub are : All (IsReading (frame m)) some
  pub more : max < length some

-- all constraints are `qeq`, and these are all readings, no more than `max`
pub record AreAll (m : Meaning) (max : ℕ) (ps : List Plugged) : Type 0 where
  pub qeqs : All IsQeq m.hcons
  pub are : AreReadings (frame m) ps
  pub few : length ps ≤ max

abbrev pub IsScopeFault : Meaning → ℕ → ScopeFault → Type 0
IsScopeFault m max (Relation place) = IsFirstOther m place
IsScopeFault m max ReadingLimit = IsOver m max
IsScopeFault m max NoMemory = Unit {0}

-- ` hB=hC`
abbrev pub plug_text : Plug → List ℕ
plug_text s = codes " h" ++ decimal s.hole ++ codes "=h" ++ decimal s.label

-- `  top=hA` and each hole
abbrev pub reading_line : Plugged → List ℕ
reading_line p = codes "  top=h" ++ decimal p.top ++ flat_map plug_text p.plugs ++ 10 ∷ []
