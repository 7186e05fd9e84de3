-- How a run of the program ends.
use Rattle.std.specs.Prelude.{◌≡◌, ◌⊎◌, ℕ, List, [], Bool, Result, Ok, Err, false}
use Rattle.command_line.specs.Words.{Form, IsForm}
use Rattle.endings.specs.Meanings.{Shelves}
use Rattle.endings.specs.Reports.{Streams}
use Rattle.endings.specs.Endings.{Ended}
use Rattle.endings.specs.Notes.{AreNoted}
use Rattle.endings.specs.declared.Fault.{Fault}
use Rattle.endings.specs.declared.Fault.TheVariants.{Usage, Stopped}
use Rattle.endings.specs.declared.Stop.TheVariants.{NoMemory}
use Rattle.command_line.specs.declared.faults.WordFault.{WordFault}
use Rattle.command_line.specs.Faults.{IsFault, fault_line}
use Rattle.top_call.specs.Commands.{meaning_of}

-- the words are of no form
abbrev pub IsFormless : List (List ℕ) → Type 0
IsFormless words = (form : Form) → IsForm words form → ⊥

-- The text tells what is wrong with the words, or it is nothing, where memory was wanting for it.
abbrev pub TellsWords : List (List ℕ) → List ℕ → Type 0
TellsWords words text = ((fault : WordFault) × IsFault words fault × (text ≡ fault_line fault)) ⊎ (text ≡ [])

-- How a run ends whose words asked for nothing: they are of no form, or memory was wanting while they were read.
abbrev pub IsOfWords : List (List ℕ) → Fault → Type 0
IsOfWords words (Usage text) = IsFormless words × TellsWords words text.items
IsOfWords words (Stopped NoMemory) = Unit {0}
IsOfWords words other = ⊥

abbrev pub EndedByWords : List (List ℕ) → Result Bool Fault → Type 0
EndedByWords words (Ok refused) = ⊥
EndedByWords words (Err fault) = IsOfWords words fault

-- The words are of a form, and the run ended by what that form asks for, with its notes; or they asked for nothing, nothing was read or written,
-- and nothing is noted. `unopened` says that the shelf is as it was.
abbrev pub RunEnded : List (List ℕ) → Shelves → Streams → (unopened idle untouched : Type 0) → (notes : List ℕ) → Result Bool Fault → Type 0
RunEnded words h o unopened idle untouched notes end =
    ((form : Form) × IsForm words form × Ended (meaning_of form) h o idle untouched end × ((meaning_of form).opens ≡ false → unopened)
    × AreNoted (meaning_of form) h.files o.left_old o.left_new notes end)
    ⊎ (EndedByWords words end × unopened × untouched × (notes ≡ []))
