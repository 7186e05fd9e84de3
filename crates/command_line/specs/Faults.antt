-- What is wrong with words that are of no form, and how it is told.
use Rattle.std.specs.Prelude.{◌≡◌, ◌⊎◌, ℕ, List, [], ◌∷◌, ◌++◌, Option, Some, None, Bool, ◌||◌, slice_get, codes, if◌then◌else◌}
use Rattle.std.specs.Fmt.{decimal}
use Rattle.std.specs.List.{list_any}
use Rattle.std.specs.Str.{bytes_eq}
use Rattle.command_line.specs.Words.{Value, in_range, Workers, Edges, Readings, Lexical, Unary, Empty as EmptyWords, Settings, Mrs, Lattice, Verbose, word_of, is_name, Form, IsForm}
use Rattle.command_line.specs.declared.places.Place.{Place}
use Rattle.command_line.specs.declared.places.Place.TheVariants.{First, AfterHelp, PastEnd, Argument, OfOption}
use Rattle.command_line.specs.declared.faults.Cause.{Cause}
use Rattle.command_line.specs.declared.faults.Cause.TheVariants.{NoCommand, NoOption, SaidTwice, NoValue, OutOfRange, TooMany, Empty}
use Rattle.command_line.specs.declared.faults.WordFault.{WordFault}
use Rattle.command_line.specs.declared.faults.WordFault.TheVariants.{Wrong, Missing}
use Rattle.command_line.specs.Fronts.{GoesOn, IsAt, values_by, names_by, value_in}

-- The first wrong word: those before it go on to a form, and with it they don't.
pub record IsFirstWrong (words before : List (List ℕ)) (word : List ℕ) : Type 0 where
  pub after : List (List ℕ)
  pub split : words ≡ before ++ word ∷ after
  pub goes : GoesOn before
  pub ends : GoesOn (before ++ word ∷ []) → ⊥

-- the word of an option
abbrev pub is_option_word : List ℕ → Bool
is_option_word word = list_any (λ o. bytes_eq word (word_of o)) (Workers ∷ Edges ∷ Readings ∷ Lexical ∷ Unary ∷ EmptyWords ∷ Settings ∷ Mrs ∷ Lattice ∷ Verbose ∷ [])

-- the word of a form of its own, which is an option nowhere
abbrev pub is_alone : List ℕ → Bool
is_alone word = bytes_eq word (codes "--help") || (bytes_eq word (codes "-h") || bytes_eq word (codes "--version"))

-- why a word that begins with `-` is wrong where it can't be a value; the first argument is why an option's word is
abbrev pub dash_cause : Cause → List ℕ → Cause
dash_cause of_option word = if is_option_word word then of_option else (if is_alone word then TooMany else NoOption)

-- why a name is wrong where this is wanted, or nothing more
abbrev pub name_cause : Option Value → Cause
name_cause (Some (in_range least greatest)) = OutOfRange least greatest
name_cause other = TooMany

-- why a word is wrong that stands at this place and isn't empty
abbrev pub cause_by : Place → List ℕ → Cause
cause_by First word = if is_name word then NoCommand else dash_cause NoCommand word
cause_by AfterHelp word = if is_name word then NoCommand else dash_cause NoCommand word
cause_by PastEnd word = TooMany
cause_by (Argument command filled) word = if is_name word then name_cause (slice_get (values_by command) filled) else dash_cause SaidTwice word
cause_by (OfOption command filled wanted) word = if is_name word then name_cause (Some (value_in wanted)) else NoValue

-- Why a word is wrong that is the first wrong one and stands at this place.
abbrev pub cause_at : Place → List ℕ → Cause
cause_at place word = if bytes_eq word [] then Empty else cause_by place word

-- the word that is told: the option's, where its value is missing, and else the wrong one
abbrev pub IsTold : Cause → (before : List (List ℕ)) (word told : List ℕ) → Type 0
IsTold NoValue before word told = (front : List (List ℕ)) × (before ≡ front ++ told ∷ [])
IsTold cause before word told = told ≡ word

-- These words have this first wrong word, for this cause.
pub record IsWrong (words : List (List ℕ)) (told : List ℕ) (cause : Cause) : Type 0 where
  pub before : List (List ℕ)
  pub word : List ℕ
  pub first : IsFirstWrong words before word
  pub place : Place
  pub at : IsAt before place
  pub why : cause ≡ cause_at place word
  pub tells : IsTold cause before word told

-- the value of an option stands next
abbrev pub WantsValue : Place → Type 0
WantsValue (OfOption command filled wanted) = Unit {0}
WantsValue other = ⊥

-- The words end with the word of an option that wants a value.
abbrev pub EndsWithOption : List (List ℕ) → List ℕ → Type 0
EndsWithOption words told = (place : Place) × (front : List (List ℕ)) × IsAt words place × WantsValue place × (words ≡ front ++ told ∷ [])

-- the name of the positional word that is lacking where the words end at this place
abbrev pub lacking_at : Place → Option (List ℕ)
lacking_at First = Some (codes "COMMAND")
lacking_at (Argument command filled) = slice_get (names_by command) filled
lacking_at other = None

-- What is wrong with the words: one is the first wrong one, or the words end with an option that wants a value; or all that are there go on to a
-- form, and a positional word is lacking.
abbrev pub IsFault : List (List ℕ) → WordFault → Type 0
IsFault words (Wrong told cause) = IsWrong words told.now cause ⊎ ((cause ≡ NoValue) × EndsWithOption words told.now)
IsFault words (Missing name) = (place : Place) × IsAt words place × (lacking_at place ≡ Some name.now)

abbrev pub cause_text : Cause → List ℕ
cause_text NoCommand = codes "no such command"
cause_text NoOption = codes "no such option"
cause_text SaidTwice = codes "said twice"
cause_text NoValue = codes "a value is missing"
cause_text (OutOfRange least greatest) = codes "a number from " ++ decimal least ++ codes " to " ++ decimal greatest
cause_text TooMany = codes "one word too many"
cause_text Empty = codes "is empty"

-- the line that tells a fault
abbrev pub fault_line : WordFault → List ℕ
fault_line (Wrong told cause) = codes "lkb: " ++ told.now ++ codes ": " ++ cause_text cause ++ 10 ∷ []
fault_line (Missing name) = codes "lkb: a word is missing: " ++ name.now ++ 10 ∷ []

-- The text that tells what is wrong with the words: the line of their fault, or nothing, where they are of a form.
abbrev pub IsText : List (List ℕ) → List ℕ → Type 0
IsText words text = ((fault : WordFault) × IsFault words fault × (text ≡ fault_line fault)) ⊎ (((form : Form) × IsForm words form) × (text ≡ []))
