-- What the outside tells of its bytes, and when it has failed.
use Rattle.std.specs.Prelude.{◌≡◌, ℕ, ◌<◌, ◌^◌, ◌-◌, min, List, [], ◌++◌, Option, None, Some, IfSome}

-- A count of faults rose, or stands at the greatest number of 64 bits, where it can't rise.
abbrev pub HasRisen : ℕ → ℕ → Type 0
HasRisen old new = min old (2 ^ 64 - 2) < new

-- These bytes were taken off what was left, where that is told. Whether it is told doesn't change.
abbrev pub Takes : Option (List ℕ) → Option (List ℕ) → List ℕ → Type 0
Takes None None came = Unit {0}
Takes None (Some new) came = ⊥
Takes (Some old) None came = ⊥
Takes (Some old) (Some new) came = old ≡ came ++ new

-- Nothing is left, where that is told.
abbrev pub IsAtEnd : Option (List ℕ) → Type 0
IsAtEnd left = IfSome left (λ bytes. bytes ≡ [])

-- These bytes were added to what was written, where that is told in the end. What isn't told isn't told again.
abbrev pub Adds : Option (List ℕ) → Option (List ℕ) → List ℕ → Type 0
Adds old None piece = Unit {0}
Adds None (Some new) piece = ⊥
Adds (Some old) (Some new) piece = new ≡ old ++ piece

-- the first list is a front of the second
abbrev pub IsFront : List ℕ → List ℕ → Type 0
IsFront front whole = (rest : List ℕ) × (front ++ rest ≡ whole)

-- A front of these bytes was added.
abbrev pub AddsFront : Option (List ℕ) → Option (List ℕ) → List ℕ → Type 0
AddsFront old new whole = (piece : List ℕ) × IsFront piece whole × Adds old new piece
