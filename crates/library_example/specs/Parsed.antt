-- What comes of lines that are parsed with a grammar in memory.
use Rattle.std.specs.Prelude.{◌≡◌, ℕ, List, [], ◌∷◌, ◌++◌, Bool, true, false, Some, codes}
use Rattle.std.specs.List.{concat}
use Rattle.lkb_io.specs.Lines.{lines_of}
use Rattle.lkb_io.specs.Shelves.{NamedFile, file_or_empty}
use Rattle.command_line.specs.Words.{Form, run, parse, options_of}
use Rattle.endings.specs.Meanings.{Files, FileFault, Meaning}
use Rattle.endings.specs.Readings.{AreReadable}
use Rattle.endings.specs.declared.Status.{Status}
use Rattle.endings.specs.declared.Status.TheVariants.{Done, Items, Usage, Grammar, ReadFault, WriteFault, Gaps, NoMemory}
use Rattle.top_call.specs.Commands.{meaning_of}

-- the words that are asked: `parse grammar`, without an option
abbrev pub words_asked : List (List ℕ)
words_asked = codes "parse" ∷ codes "grammar" ∷ []

-- what they ask for: to parse with the grammar of the file `grammar.tdl`, by the default of each option
abbrev pub form_asked : Form
form_asked = run (parse (codes "grammar")) (options_of [])

abbrev pub asked : Meaning
asked = meaning_of form_asked

-- the shelf that has the text of a grammar, and no other file
abbrev pub shelf_of : List ℕ → List NamedFile
shelf_of grammar = record { name = codes "grammar.tdl"; text = grammar } ∷ []

abbrev pub files_of : List ℕ → Files
files_of grammar = Some (file_or_empty (shelf_of grammar))

-- This text tells the first fault of these files.
abbrev pub IsFirstFault : Meaning → Files → (text : List ℕ) → Type 0
IsFirstFault meaning files text = (fault : FileFault) × meaning.first files (λ name. false) fault × (text ≡ fault.text ++ fault.details)

-- These bytes are the report over the lines, as the meaning has it: for `parse`, for each line in turn exactly the trees that the grammar
-- licenses, or the limit that it breaks. The last says whether a line is refused.
abbrev pub IsReport : Meaning → Files → (lines report : List ℕ) → Bool → Type 0
IsReport meaning files lines report refused = (pieces : List (List ℕ)) × meaning.report files (lines_of lines) pieces refused × (report ≡ concat pieces)

-- What a program gets over objects in memory, which can't fail: the report and the text of a fault, by the status. Memory may be wanting
-- at any time, for some lines alone, which are told, or elsewhere; and each other status tells what is so.
abbrev pub Comes : Meaning → Files → (lines report fault : List ℕ) → Status → Type 0
Comes meaning files lines report fault Done = IsReport meaning files lines report false × (fault ≡ [])
Comes meaning files lines report fault Items = IsReport meaning files lines report true × (fault ≡ [])
Comes meaning files lines report fault Grammar = IsFirstFault meaning files fault × (report ≡ [])
Comes meaning files lines report fault ReadFault = AreReadable (lines_of lines) → ⊥
Comes meaning files lines report fault Gaps = Unit {0}
Comes meaning files lines report fault NoMemory = Unit {0}
Comes meaning files lines report fault Usage = ⊥
Comes meaning files lines report fault WriteFault = ⊥
