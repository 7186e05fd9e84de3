-- The fronts of command lines, and what may stand after each.
use Rattle.std.specs.Prelude.{◌≡◌, ◌⊎◌, ℕ, List, [], ◌∷◌, ◌++◌, length, codes}
use Rattle.command_line.specs.Words.{Value, in_range, name, nothing, OptionName, word_of, value_of, IsValue, Item, words_of, AreItems, IsNotIn, AreOnce, positionals, name_word, Form, help_on, version, IsHelpFlag, IsForm}
use Rattle.command_line.specs.declared.tasks.CommandName.{CommandName}
use Rattle.command_line.specs.declared.tasks.CommandName.TheVariants as named
use Rattle.command_line.specs.declared.places.Wanted.{Wanted}
use Rattle.command_line.specs.declared.places.Wanted.TheVariants.{Number, Name, Nothing}
use Rattle.command_line.specs.declared.places.Place.{Place}
use Rattle.command_line.specs.declared.places.Place.TheVariants.{First, AfterHelp, PastEnd, Argument, OfOption}

-- Words that go on to a form: with some words after them, or none, they are of one.
abbrev pub GoesOn : List (List ℕ) → Type 0
GoesOn words = (more : List (List ℕ)) × (form : Form) × IsForm (words ++ more) form

-- the values of a command's positional words
abbrev pub values_by : CommandName → List Value
values_by named.Expand = name ∷ name ∷ []
values_by named.Batch = name ∷ name ∷ []
values_by named.SelfTest = in_range 0 18446744073709551615 ∷ in_range 1 1000 ∷ []
values_by named.Scope = []
values_by other = name ∷ []

-- their names, as help writes them
abbrev pub names_by : CommandName → List (List ℕ)
names_by named.Expand = codes "GRAMMAR" ∷ codes "NAME" ∷ []
names_by named.Batch = codes "GRAMMAR" ∷ codes "PROFILE" ∷ []
names_by named.SelfTest = codes "NUMBER" ∷ codes "SIZE" ∷ []
names_by named.Scope = []
names_by named.Transfer = codes "RULES" ∷ []
names_by other = codes "GRAMMAR" ∷ []

-- The words are values of the first of these places, one each.
abbrev pub FillFirst : List Value → List (List ℕ) → Type 0
FillFirst values [] = Unit {0}
FillFirst (v ∷ values) (word ∷ words) = IsValue v (word ∷ []) × FillFirst values words
FillFirst [] (word ∷ words) = ⊥

-- These items stand after the command's word in a front: options with their values, each once, and some of the positional words.
pub record AreFirst (command : CommandName) (items : List Item) : Type 0 where
  pub are : AreItems items
  pub once : AreOnce items
  pub fill : FillFirst (values_by command) (positionals items)

-- A form of help or of the version that no word follows: `help` alone isn't among them.
abbrev pub IsEnd : List (List ℕ) → Type 0
IsEnd words = IsForm words version ⊎ (((word : List ℕ) × (words ≡ word ∷ []) × IsHelpFlag word) ⊎ ((command : CommandName) × IsForm words (help_on command)))

-- what is wanted of a word, as a value
abbrev pub value_in : Wanted → Value
value_in (Number least greatest) = in_range least greatest
value_in Name = name
value_in Nothing = nothing

-- What stands next after these words: the first word; a command's word after `help`; nothing more; an option's word, or the positional word
-- that so many are before; or the value of the option whose word is the last one.
abbrev pub IsAt : List (List ℕ) → Place → Type 0
IsAt words First = words ≡ []
IsAt words AfterHelp = words ≡ codes "help" ∷ []
IsAt words PastEnd = IsEnd words
IsAt words (Argument command filled) = (items : List Item) × (words ≡ name_word command ∷ words_of items) × AreFirst command items × (length (positionals items) ≡ filled)
IsAt words (OfOption command filled wanted) = (items : List Item) × (o : OptionName) × (words ≡ name_word command ∷ (words_of items ++ word_of o ∷ []))
    × AreFirst command items × (length (positionals items) ≡ filled) × IsNotIn o items × (value_of o ≡ value_in wanted) × (value_of o ≡ nothing → ⊥)
