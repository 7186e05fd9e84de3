-- The lines of a list of bytes. A line ends with byte 10; the last may have no end.
use Rattle.std.specs.Prelude.{◌≡◌, ◌≢◌, ℕ, ◌<◌, ◌≤◌, ◌==◌, if◌then◌else◌, List, [], ◌∷◌, ◌++◌, length, take, drop, ◌+◌, Option, None, Some, ◌⊎◌, Bool, true, false}
use Rattle.std.specs.List.{list_any}

-- no byte is a line end
abbrev pub HasNoEnd : List ℕ → Type 0
HasNoEnd [] = Unit {0}
HasNoEnd (b ∷ bs) = (b ≢ 10) × HasNoEnd bs

-- whether a line end stands among these bytes
abbrev pub has_end : List ℕ → Bool
has_end bytes = list_any (λ b. b == 10) bytes

-- a byte before a text that is cut into its whole lines and a rest
abbrev pub put_before : ℕ → List (List ℕ) × List ℕ → List (List ℕ) × List ℕ
put_before b ([], rest) = ([], b ∷ rest)
put_before b (line ∷ lines, rest) = ((b ∷ line) ∷ lines, rest)

-- the whole lines, without their ends, and what stands after the last end
abbrev pub cut : List ℕ → List (List ℕ) × List ℕ
cut [] = ([], [])
cut (b ∷ bs) = if b == 10 then ([] ∷ (cut bs).0, (cut bs).1) else put_before b (cut bs)

-- the last line, where bytes stand after the last end
abbrev pub last_line : List ℕ → List (List ℕ)
last_line [] = []
last_line (b ∷ bs) = (b ∷ bs) ∷ []

-- the lines that have an end
abbrev pub whole_lines : List ℕ → List (List ℕ)
whole_lines bytes = (cut bytes).0

-- all lines: those that have an end, and the last where it has none
abbrev pub lines_of : List ℕ → List (List ℕ)
lines_of bytes = (cut bytes).0 ++ last_line (cut bytes).1

-- whole lines as they stand in a text, each with its end
abbrev pub text_of : List (List ℕ) → List ℕ
text_of [] = []
text_of (line ∷ lines) = line ++ 10 ∷ text_of lines

-- none of these lines has an end in it
abbrev pub HaveNoEnd : List (List ℕ) → Type 0
HaveNoEnd [] = Unit {0}
HaveNoEnd (line ∷ lines) = HasNoEnd line × HaveNoEnd lines

-- 65,536 bytes without a line end
abbrev pub IsTooLong : List ℕ → Type 0
IsTooLong bytes = (65536 ≤ length bytes) × HasNoEnd bytes

-- the first line ends at this place
abbrev pub IsEndAt : List ℕ → ℕ → Type 0
IsEndAt bytes at = (at < length bytes) × HasNoEnd (take at bytes) × (bytes ≡ take at bytes ++ 10 ∷ drop (at + 1) bytes)

-- what is held of a source: bytes taken and not given as a line, and whether the end was met
pub record Kept : Type 0 where
  pub bytes : List ℕ
  pub ended : Bool

-- The next line of the bytes that came, and what is held after it: a line up to its end, or the last without one.
abbrev pub IsNext : Option (List ℕ) → List ℕ → Kept → Type 0
IsNext (Some line) all held = HasNoEnd line × (length line < 65536) × (((all ≡ line ++ 10 ∷ held.bytes) × (held.ended ≡ false)) ⊎ ((all ≡ line) × (line ≢ []) × (held.bytes ≡ []) × (held.ended ≡ true)))
IsNext None all held = (all ≡ []) × (held.bytes ≡ []) × (held.ended ≡ true)

-- all that is held as the last line, where it is not empty
abbrev pub last_of : List ℕ → Option (List ℕ)
last_of [] = None
last_of (b ∷ bs) = Some (b ∷ bs)
