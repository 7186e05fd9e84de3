-- The forms of the command line.
use Rattle.std.specs.Prelude.{◌≡◌, ◌⊎◌, ℕ, ◌≤◌, List, [], ◌∷◌, ◌++◌, Option, None, Some, Bool, true, false, not, ◌==◌, codes, is_some, if◌then◌else◌}
use Rattle.std.specs.Option.{option_map_or}
use Rattle.std.specs.Str.{bytes_eq}
use Rattle.std.specs.Str.Parse.{IsNumeral, digits_value, without_leading_plus}
use Rattle.command_line.specs.declared.tasks.CommandName.{CommandName}
use Rattle.command_line.specs.declared.tasks.CommandName.TheVariants as named

-- a word that names something: it isn't empty and doesn't begin with `-`
abbrev pub is_name : List ℕ → Bool
is_name [] = false
is_name (b ∷ bs) = not (b == 45)

-- the options that a command line can have
pub data OptionName : Type 0 where
  Workers : OptionName
  Edges : OptionName
  Readings : OptionName
  Lexical : OptionName
  Unary : OptionName
  Empty : OptionName
  Settings : OptionName
  Mrs : OptionName
  Lattice : OptionName
  Verbose : OptionName

-- an option's word, without the `--` before it
abbrev pub option_id : OptionName → List ℕ
option_id Workers = codes "workers"
option_id Edges = codes "edges"
option_id Readings = codes "readings"
option_id Lexical = codes "lexical"
option_id Unary = codes "unary"
option_id Empty = codes "empty"
option_id Settings = codes "settings"
option_id Mrs = codes "mrs"
option_id Lattice = codes "lattice"
option_id Verbose = codes "verbose"

-- an option's word
abbrev pub word_of : OptionName → List ℕ
word_of o = 45 ∷ 45 ∷ option_id o

-- what stands after an option's word, or at a place of a positional word: a number from `least` to `greatest`, a name, or nothing
pub data Value : Type 0 where
  in_range : (least greatest : ℕ) → Value
  name : Value
  nothing : Value

-- what stands after an option's word
abbrev pub value_of : OptionName → Value
value_of Workers = in_range 1 64
value_of Edges = in_range 1 20000
value_of Readings = in_range 1 100000
value_of Lexical = in_range 0 15
value_of Unary = in_range 0 32
value_of Empty = in_range 0 16
value_of Settings = name
value_of Mrs = nothing
value_of Lattice = nothing
value_of Verbose = nothing

-- the number that a word writes in decimal digits
abbrev pub number_of : List ℕ → ℕ
number_of word = digits_value 10 (without_leading_plus word)

-- The word writes a number in this range: decimal digits, and a `+` may stand before them.
abbrev pub IsNumber : ℕ → ℕ → List ℕ → Type 0
IsNumber least greatest word = IsNumeral 10 (without_leading_plus word) × (least ≤ number_of word) × (number_of word ≤ greatest)

-- These words are such a value. No value begins with `-`.
abbrev pub IsValue : Value → List (List ℕ) → Type 0
IsValue (in_range least greatest) (word ∷ []) = (is_name word ≡ true) × IsNumber least greatest word
IsValue name (word ∷ []) = is_name word ≡ true
IsValue nothing [] = Unit {0}
IsValue _ words = ⊥

-- what a command line is made of after its command: positional words, and options with the words of their values
pub data Item : Type 0 where
  positional : (word : List ℕ) → Item
  option : (o : OptionName) (value : List (List ℕ)) → Item

-- the words that these items are written with
abbrev pub words_of : List Item → List (List ℕ)
words_of [] = []
words_of (positional word ∷ items) = word ∷ words_of items
words_of (option o value ∷ items) = word_of o ∷ (value ++ words_of items)

-- each option is followed by its value, and each positional word is a name
abbrev pub AreItems : List Item → Type 0
AreItems [] = Unit {0}
AreItems (positional word ∷ items) = (is_name word ≡ true) × AreItems items
AreItems (option o value ∷ items) = IsValue (value_of o) value × AreItems items

-- the option isn't among these items
abbrev pub IsNotIn : OptionName → List Item → Type 0
IsNotIn o [] = Unit {0}
IsNotIn o (positional word ∷ items) = IsNotIn o items
IsNotIn o (option p value ∷ items) = (o ≡ p → ⊥) × IsNotIn o items

-- no option stands twice
abbrev pub AreOnce : List Item → Type 0
AreOnce [] = Unit {0}
AreOnce (positional word ∷ items) = AreOnce items
AreOnce (option o value ∷ items) = IsNotIn o items × AreOnce items

-- the positional words, in order
abbrev pub positionals : List Item → List (List ℕ)
positionals [] = []
positionals (positional word ∷ items) = word ∷ positionals items
positionals (option o value ∷ items) = positionals items

-- the positional words are values of these places, one each
abbrev pub FillPlaces : List Value → List (List ℕ) → Type 0
FillPlaces [] [] = Unit {0}
FillPlaces (v ∷ places) (word ∷ words) = IsValue v (word ∷ []) × FillPlaces places words
FillPlaces places words = ⊥

-- the words after an option, where it stands among these items
abbrev pub value_in : OptionName → List Item → Option (List (List ℕ))
value_in o [] = None
value_in o (positional word ∷ items) = value_in o items
value_in o (option p value ∷ items) = if bytes_eq (option_id p) (option_id o) then Some value else value_in o items

-- the options of a command line, each with its value where it stands there, or its default
pub record Options : Type 0 where
  pub workers : ℕ
  pub edges : ℕ
  pub readings : ℕ
  pub lexical : ℕ
  pub unary : ℕ
  pub empty : ℕ
  pub settings : Option (List ℕ)
  pub mrs : Bool
  pub lattice : Bool
  pub verbose : Bool

-- the one word of a value
abbrev pub only : Option (List (List ℕ)) → Option (List ℕ)
only (Some (word ∷ words)) = Some word
only other = None

-- the number that the one word of a value writes, or the default
abbrev pub number_or : ℕ → Option (List (List ℕ)) → ℕ
number_or default value = option_map_or number_of (only value) default

-- the options that these items give
abbrev pub options_of : List Item → Options
options_of items = record {
  workers = number_or 1 (value_in Workers items);
  edges = number_or 5000 (value_in Edges items);
  readings = number_or 10000 (value_in Readings items);
  lexical = number_or 7 (value_in Lexical items);
  unary = number_or 8 (value_in Unary items);
  empty = number_or 4 (value_in Empty items);
  settings = only (value_in Settings items);
  mrs = is_some (value_in Mrs items);
  lattice = is_some (value_in Lattice items);
  verbose = is_some (value_in Verbose items);
}

-- These words are what stands after a command: positional words that fill these places, in this order, and options that give these
-- values, each at most once, in any order and anywhere among the positional words.
abbrev pub AreArguments : List Value → List (List ℕ) → List (List ℕ) → Options → Type 0
AreArguments places words names options = (items : List Item) × (words ≡ words_of items) × AreItems items × AreOnce items
    × FillPlaces places (positionals items) × (positionals items ≡ names) × (options ≡ options_of items)

-- What a command is to do, with its positional words.
pub data Task : Type 0 where
  parse : (grammar : List ℕ) → Task
  chart : (grammar : List ℕ) → Task
  explain : (grammar : List ℕ) → Task
  generate : (grammar : List ℕ) → Task
  types : (grammar : List ℕ) → Task
  expand : (grammar entry : List ℕ) → Task
  check : (grammar : List ℕ) → Task
  self_test : (number size : ℕ) → Task
  scope : Task
  batch : (grammar profile : List ℕ) → Task
  transfer : (rules : List ℕ) → Task

-- the command of a task
abbrev pub command_in : Task → CommandName
command_in (parse grammar) = named.Parse
command_in (chart grammar) = named.Chart
command_in (explain grammar) = named.Explain
command_in (generate grammar) = named.Generate
command_in (types grammar) = named.Types
command_in (expand grammar entry) = named.Expand
command_in (check grammar) = named.Check
command_in (self_test number size) = named.SelfTest
command_in scope = named.Scope
command_in (batch grammar profile) = named.Batch
command_in (transfer rules) = named.Transfer

-- the word of a command
abbrev pub name_word : CommandName → List ℕ
name_word named.Parse = codes "parse"
name_word named.Chart = codes "chart"
name_word named.Explain = codes "explain"
name_word named.Generate = codes "generate"
name_word named.Types = codes "types"
name_word named.Expand = codes "expand"
name_word named.Check = codes "check"
name_word named.SelfTest = codes "self-test"
name_word named.Scope = codes "scope"
name_word named.Batch = codes "batch"
name_word named.Transfer = codes "transfer"

-- the word of a task's command
abbrev pub command_word : Task → List ℕ
command_word task = name_word (command_in task)

-- the places of its positional words
abbrev pub places_of : Task → List Value
places_of (expand grammar entry) = name ∷ name ∷ []
places_of (batch grammar profile) = name ∷ name ∷ []
places_of (self_test number size) = in_range 0 18446744073709551615 ∷ in_range 1 1000 ∷ []
places_of scope = []
places_of one = name ∷ []

-- the command has these positional words, where a number is what its word writes
abbrev pub HasNames : Task → List (List ℕ) → Type 0
HasNames (parse grammar) names = names ≡ grammar ∷ []
HasNames (chart grammar) names = names ≡ grammar ∷ []
HasNames (explain grammar) names = names ≡ grammar ∷ []
HasNames (generate grammar) names = names ≡ grammar ∷ []
HasNames (types grammar) names = names ≡ grammar ∷ []
HasNames (expand grammar entry) names = names ≡ grammar ∷ entry ∷ []
HasNames (check grammar) names = names ≡ grammar ∷ []
HasNames (self_test number size) names = (a : List ℕ) × (b : List ℕ) × (names ≡ a ∷ b ∷ []) × (number ≡ number_of a) × (size ≡ number_of b)
HasNames scope names = names ≡ []
HasNames (batch grammar profile) names = names ≡ grammar ∷ profile ∷ []
HasNames (transfer rules) names = names ≡ rules ∷ []

-- What the words of a command line ask for.
pub data Form : Type 0 where
  help : Form
  help_on : (command : CommandName) → Form
  version : Form
  run : (task : Task) (options : Options) → Form

-- The word asks for help.
abbrev pub IsHelpFlag : List ℕ → Type 0
IsHelpFlag word = (word ≡ codes "--help") ⊎ (word ≡ codes "-h")

-- The words are of this form. Help on a command is asked for after its word, or before it by `help`. The words of a run begin with the
-- command's, and every command takes every option.
abbrev pub IsForm : List (List ℕ) → Form → Type 0
IsForm words help = (word : List ℕ) × (words ≡ word ∷ []) × (IsHelpFlag word ⊎ (word ≡ codes "help"))
IsForm words (help_on command) = ((word : List ℕ) × (words ≡ name_word command ∷ word ∷ []) × IsHelpFlag word) ⊎ (words ≡ codes "help" ∷ name_word command ∷ [])
IsForm words version = words ≡ codes "--version" ∷ []
IsForm words (run task options) = (rest : List (List ℕ)) × (names : List (List ℕ)) × (words ≡ command_word task ∷ rest) × AreArguments (places_of task) rest names options × HasNames task names

-- the number is in such a value's range
abbrev pub IsWithin : Value → ℕ → Type 0
IsWithin (in_range least greatest) n = (least ≤ n) × (n ≤ greatest)
IsWithin value n = ⊥

-- each number is in its option's range
abbrev pub AreWithin : Options → Type 0
AreWithin o = IsWithin (value_of Workers) o.workers × IsWithin (value_of Edges) o.edges × IsWithin (value_of Readings) o.readings
    × IsWithin (value_of Lexical) o.lexical × IsWithin (value_of Unary) o.unary × IsWithin (value_of Empty) o.empty
