-- The characters of names and of lines (DELPH-IN TDL), and runs of characters.
use Rattle.std.specs.Prelude.{◌≡◌, ℕ, ◌<◌, Bool, true, false, ◌||◌, ◌==◌, nat_lt, if◌then◌else◌, List, [], ◌∷◌, length}
use Rattle.std.specs.Str.{encode_utf8_all}
use Rattle.std.specs.Char.{is_ascii_alphabetic, is_ascii_digit}
use Rattle.ucd_category.specs.GeneralCategory.{general_category}
use Rattle.ucd_category.specs.declared.GeneralCategory.{GeneralCategory}
use Rattle.ucd_category.specs.declared.GeneralCategory.TheVariants.{SpaceSeparator, LineSeparator, ParagraphSeparator, Control, Surrogate, PrivateUse, Unassigned}

-- the general categories whose characters past ASCII stand in names: all but separators, control, surrogate, private use and unassigned ones
abbrev pub in_name : GeneralCategory → Bool
in_name SpaceSeparator = false
in_name LineSeparator = false
in_name ParagraphSeparator = false
in_name Control = false
in_name Surrogate = false
in_name PrivateUse = false
in_name Unassigned = false
in_name _ = true

-- the name characters: in ASCII letters, digits and * + - _ ? @ ~
unfoldable pub is_name : ℕ → Bool
is_name c =
    if nat_lt c 128 then is_ascii_alphabetic c || is_ascii_digit c || (c == 42) || (c == 43) || (c == 45) || (c == 95) || (c == 63) || (c == 64) || (c == 126)
    else in_name (general_category c)

abbrev pub is_newline : ℕ → Bool
is_newline c = c == 10

-- the bytes that the characters take
abbrev pub width : List ℕ → ℕ
width cs = length (encode_utf8_all cs)

abbrev pub AllPass : (ℕ → Bool) → List ℕ → Type 0
AllPass p [] = Unit {0}
AllPass p (c ∷ cs) = (p c ≡ true) × AllPass p cs

-- no character that passes stands first
abbrev pub StopsBefore : (ℕ → Bool) → List ℕ → Type 0
StopsBefore p [] = Unit {0}
StopsBefore p (c ∷ cs) = p c ≡ false

-- a run of characters that pass, as long as it can be
abbrev pub IsRun : (ℕ → Bool) → List ℕ → List ℕ → Type 0
IsRun p run rest = AllPass p run × StopsBefore p rest

-- one or more name characters, as many as there are
abbrev pub IsName : List ℕ → List ℕ → Type 0
IsName name rest = (0 < length name) × IsRun is_name name rest
