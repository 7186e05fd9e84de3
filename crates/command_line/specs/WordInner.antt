-- What the functions on faults of words cite between themselves. No contract of a public function cites it.
use Rattle.std.specs.Prelude.{◌≡◌, ◌⊎◌, ℕ, List, [], ◌∷◌, ◌++◌, Option, Some, None, if◌then◌else◌}
use Rattle.std.specs.Str.{bytes_eq}
use Rattle.command_line.specs.Words.{OptionName, Workers, Edges, Readings, Lexical, Unary, Empty, Settings, Mrs, Lattice, Verbose, word_of}
use Rattle.command_line.specs.declared.tasks.CommandName.{CommandName}
use Rattle.command_line.specs.declared.places.Wanted.{Wanted}
use Rattle.command_line.specs.declared.places.Wanted.TheVariants.{Nothing}
use Rattle.command_line.specs.declared.places.Place.{Place}
use Rattle.command_line.specs.declared.places.Place.TheVariants.{Argument, OfOption}
use Rattle.command_line.specs.declared.faults.Cause.{Cause}
use Rattle.command_line.specs.declared.faults.Cause.TheVariants.{NoValue}
use Rattle.command_line.specs.Fronts.{GoesOn, IsAt}

-- The place after one word more, or none, where the word can't stand.
abbrev pub Leads : List (List ℕ) → List ℕ → Option Place → Type 0
Leads before word (Some place) = IsAt (before ++ word ∷ []) place
Leads before word None = GoesOn (before ++ word ∷ []) → ⊥

-- the option of a word
abbrev pub option_named : List ℕ → Option OptionName
option_named w = if bytes_eq w (word_of Workers) then Some Workers
    else (if bytes_eq w (word_of Edges) then Some Edges
    else (if bytes_eq w (word_of Readings) then Some Readings
    else (if bytes_eq w (word_of Lexical) then Some Lexical
    else (if bytes_eq w (word_of Unary) then Some Unary
    else (if bytes_eq w (word_of Empty) then Some Empty
    else (if bytes_eq w (word_of Settings) then Some Settings
    else (if bytes_eq w (word_of Mrs) then Some Mrs
    else (if bytes_eq w (word_of Lattice) then Some Lattice
    else (if bytes_eq w (word_of Verbose) then Some Verbose else None)))))))))

-- the words end with this one, or there is none
abbrev pub Ends : List (List ℕ) → List ℕ → Type 0
Ends words last = (words ≡ []) ⊎ ((front : List (List ℕ)) × (words ≡ front ++ last ∷ []))

-- the word that is told, by the last one before the wrong one
abbrev pub told_by : Cause → (last word : List ℕ) → List ℕ
told_by NoValue last word = last
told_by cause last word = word

-- what stands after the word of an option that wants this
abbrev pub after_option : CommandName → ℕ → Wanted → Place
after_option command filled Nothing = Argument command filled
after_option command filled wanted = OfOption command filled wanted
