-- How the program reads its words: what it looks at before `clap` does, and its tables. No contract of a public function cites it.
use Rattle.std.specs.Prelude.{◌≡◌, ℕ, List, [], ◌∷◌, Option, Some, None, Bool, true, ◌||◌, codes, option_map, if◌then◌else◌}
use Rattle.std.specs.Str.{bytes_eq}
use Rattle.command_line.specs.declared.reading.Places.{Places}
use Rattle.command_line.specs.declared.reading.Places.TheVariants.{NoPlace, OneName, TwoNames, TwoNumbers}
use Rattle.command_line.specs.declared.tasks.CommandName.{CommandName}
use Rattle.command_line.specs.declared.tasks.CommandName.TheVariants as named
use Rattle.command_line.specs.Words.{OptionName, Workers, Edges, Readings, Lexical, Unary, Empty, Settings, Mrs, Lattice, Verbose, Value, in_range, name, Task, parse, chart, explain, generate, types, expand, check, self_test, scope, batch, transfer, Form, help, help_on, version, is_name, word_of, number_of}

-- a word of a command line after the command's: that of an option, or a name
pub data IsWord : List ℕ → Type 0 where
  of_option : (o : OptionName) → IsWord (word_of o)
  of_name : (w : List ℕ) → is_name w ≡ true → IsWord w

pub data AreWords : List (List ℕ) → Type 0 where
  no_word : AreWords []
  a_word : (w : List ℕ) (ws : List (List ℕ)) → IsWord w → AreWords ws → AreWords (w ∷ ws)

-- the places of positional words
abbrev pub places_in : Places → List Value
places_in NoPlace = []
places_in OneName = name ∷ []
places_in TwoNames = name ∷ name ∷ []
places_in TwoNumbers = in_range 0 18446744073709551615 ∷ in_range 1 1000 ∷ []

-- the positional words, by the places that there are
abbrev pub names_in : Places → List ℕ → List ℕ → List (List ℕ)
names_in NoPlace first second = []
names_in OneName first second = first ∷ []
names_in places first second = first ∷ second ∷ []

-- a word of an option
abbrev pub is_option_word : List ℕ → Bool
is_option_word w = bytes_eq w (word_of Workers) || (bytes_eq w (word_of Edges) || (bytes_eq w (word_of Readings) || (bytes_eq w (word_of Lexical)
    || (bytes_eq w (word_of Unary) || (bytes_eq w (word_of Empty) || (bytes_eq w (word_of Settings) || (bytes_eq w (word_of Mrs)
    || (bytes_eq w (word_of Lattice) || bytes_eq w (word_of Verbose)))))))))

abbrev pub is_word : List ℕ → Bool
is_word w = is_name w || is_option_word w

-- the command that goes by a word
abbrev pub command_named : List ℕ → Option CommandName
command_named w = if bytes_eq w (codes "parse") then Some named.Parse
    else (if bytes_eq w (codes "chart") then Some named.Chart
    else (if bytes_eq w (codes "explain") then Some named.Explain
    else (if bytes_eq w (codes "generate") then Some named.Generate
    else (if bytes_eq w (codes "types") then Some named.Types
    else (if bytes_eq w (codes "expand") then Some named.Expand
    else (if bytes_eq w (codes "check") then Some named.Check
    else (if bytes_eq w (codes "self-test") then Some named.SelfTest
    else (if bytes_eq w (codes "scope") then Some named.Scope
    else (if bytes_eq w (codes "batch") then Some named.Batch
    else (if bytes_eq w (codes "transfer") then Some named.Transfer else None))))))))))

abbrev pub places_by : CommandName → Places
places_by named.Expand = TwoNames
places_by named.Batch = TwoNames
places_by named.SelfTest = TwoNumbers
places_by named.Scope = NoPlace
places_by other = OneName

-- the task of a command with these positional words
abbrev pub task_by : CommandName → List ℕ → List ℕ → Task
task_by named.Parse first second = parse first
task_by named.Chart first second = chart first
task_by named.Explain first second = explain first
task_by named.Generate first second = generate first
task_by named.Types first second = types first
task_by named.Expand first second = expand first second
task_by named.Check first second = check first
task_by named.SelfTest first second = self_test (number_of first) (number_of second)
task_by named.Scope first second = scope
task_by named.Batch first second = batch first second
task_by named.Transfer first second = transfer first

-- the word asks for help
abbrev pub is_help_flag : List ℕ → Bool
is_help_flag w = bytes_eq w (codes "--help") || bytes_eq w (codes "-h")

-- the form that one word has
abbrev pub one_word_form : List ℕ → Option Form
one_word_form w = if is_help_flag w || bytes_eq w (codes "help") then Some help else (if bytes_eq w (codes "--version") then Some version else None)

-- the form that two words have, where it is help on a command
abbrev pub two_word_form : List ℕ → List ℕ → Option Form
two_word_form w x = if bytes_eq w (codes "help") then option_map (λ c. help_on c) (command_named x)
    else (if is_help_flag x then option_map (λ c. help_on c) (command_named w) else None)

-- the form of help or of the version that words have
abbrev pub told_form : List (List ℕ) → Option Form
told_form (w ∷ []) = one_word_form w
told_form (w ∷ x ∷ []) = two_word_form w x
told_form words = None
