-- What is told on the error stream of the lines of a run: the notes on them.
use Rattle.std.specs.Prelude.{◌≡◌, ◌⊎◌, ℕ, ◌≤◌, ◌^◌, ◌-◌, List, [], ◌∷◌, ◌++◌, length, Option, Bool, true, false, suc, Result, Ok, Err}
use Rattle.lkb_io.specs.Outside.{HasRisen, Adds, AddsFront}
use Rattle.lkb_io.specs.Lines.{HasNoEnd, IsTooLong}
use Rattle.endings.specs.declared.Stop.{Stop}
use Rattle.endings.specs.declared.Stop.TheVariants.{Read, TooLong, TooMany, Write, Gaps, NoMemory}
use Rattle.endings.specs.declared.Fault.{Fault}
use Rattle.endings.specs.declared.Fault.TheVariants.{Stopped}
use Rattle.endings.specs.Readings.{ReadsAll, ReadsPart, Reads}
use Rattle.endings.specs.Meanings.{Meaning, Files}
use Rattle.endings.specs.Reports.{Output}
use Rattle.endings.specs.Endings.{Tells}

-- The notes on lines that are numbered from here on, as one text. The first argument says what the note on a line is: by its number and the
-- line, the text, which is empty where nothing is told.
pub data AreNotes (notes : ℕ → List ℕ → List ℕ → Type 0) : ℕ → List (List ℕ) → List ℕ → Type 0 where
  no_line_noted : (n : ℕ) → AreNotes notes n [] []
  a_line_noted : (n : ℕ) (line : List ℕ) (lines : List (List ℕ)) (own rest : List ℕ) → notes n line own
      → AreNotes notes (suc n) lines rest → AreNotes notes n (line ∷ lines) (own ++ rest)

-- what has no note on any line
abbrev pub no_note : ℕ → List ℕ → List ℕ → Type 0
no_note number line text = text ≡ []

-- The note on a line, or none, where memory may have been wanting for its answer.
abbrev pub OrNone : Bool → (ℕ → List ℕ → List ℕ → Type 0) → ℕ → List ℕ → List ℕ → Type 0
OrNone false notes n line text = notes n line text
OrNone true notes n line text = notes n line text ⊎ (text ≡ [])

-- The notes on all lines. The flag says whether memory may have been wanting for the answers to some.
abbrev pub AreAllNotes : (ℕ → List ℕ → List ℕ → Type 0) → Bool → List (List ℕ) → List ℕ → Type 0
AreAllNotes notes gaps lines text = AreNotes (OrNone gaps notes) 1 lines text

-- The notes of a run over lines that ended so: on all lines, or on those before it stopped.
abbrev pub NotesAt : (notes : Bool → List (List ℕ) → List ℕ → Type 0) → (left_old left_new : Option (List ℕ)) → List ℕ → Result Bool Stop → Type 0
NotesAt notes old new text (Ok refused) = (lines : List (List ℕ)) × ReadsAll old new lines × notes false lines text
NotesAt notes old new text (Err Gaps) = (lines : List (List ℕ)) × ReadsAll old new lines × notes true lines text
NotesAt notes old new text (Err Read) = (lines : List (List ℕ)) × (part : List ℕ) × ReadsPart old new lines part × HasNoEnd part × notes false lines text
NotesAt notes old new text (Err TooLong) = (lines : List (List ℕ)) × (part : List ℕ) × ReadsPart old new lines part × IsTooLong part × notes false lines text
NotesAt notes old new text (Err TooMany) = (lines : List (List ℕ)) × (part : List ℕ) × Reads old new lines part × (length lines ≡ 2 ^ 64 - 1) × notes false lines text
NotesAt notes old new text (Err Write) = (lines : List (List ℕ)) × (part : List ℕ) × Reads old new lines part × notes false lines text
NotesAt notes old new text (Err NoMemory) = (lines : List (List ℕ)) × (part : List ℕ) × Reads old new lines part × notes true lines text

-- A front of this text was told on the error stream, and the whole of it where no fault of that stream was counted.
abbrev pub TellsText : Output → List ℕ → Type 0
TellsText p text = (p.faults_old ≤ p.faults_new) × Tells p.written_old p.written_new p.faults_old p.faults_new text

-- what a run over lines told of them, `p` being the error stream
abbrev pub Noted : (notes : Bool → List (List ℕ) → List ℕ → Type 0) → (left_old left_new : Option (List ℕ)) → Output → Result Bool Stop → Type 0
Noted notes old new p end = (text : List ℕ) × NotesAt notes old new text end × TellsText p text

-- the notes of a command that met no fault of its files; the lines of the input say nothing to one that doesn't read them
abbrev pub RunNotes : Bool → (notes : Bool → List (List ℕ) → List ℕ → Type 0) → (left_old left_new : Option (List ℕ)) → List ℕ → Result Bool Stop → Type 0
RunNotes true notes old new text end = NotesAt notes old new text end
RunNotes false notes old new text end = (gaps : Bool) (lines : List (List ℕ)) → notes gaps lines text

-- The notes of a command whose run ended so. Where its files have a fault, or memory was wanting before the first line, there are none.
abbrev pub AreNoted : Meaning → Files → (left_old left_new : Option (List ℕ)) → List ℕ → Result Bool Fault → Type 0
AreNoted m files old new text (Ok refused) = RunNotes m.reads (m.notes files) old new text (Ok refused)
AreNoted m files old new text (Err (Stopped NoMemory)) = (text ≡ []) ⊎ RunNotes m.reads (m.notes files) old new text (Err NoMemory)
AreNoted m files old new text (Err (Stopped stop)) = RunNotes m.reads (m.notes files) old new text (Err stop)
AreNoted m files old new text (Err fault) = text ≡ []

-- what a command told of lines on the error stream
abbrev pub IsNoted : Meaning → Files → (left_old left_new : Option (List ℕ)) → Output → Result Bool Fault → Type 0
IsNoted m files old new p end = (text : List ℕ) × AreNoted m files old new text end × TellsText p text

-- A front of the notes was told, and then a front of the text; both are whole where no fault of the error stream was counted.
abbrev pub TellsBoth : Option (List ℕ) → Option (List ℕ) → ℕ → ℕ → (notes text : List ℕ) → Type 0
TellsBoth old new faults_old faults_new notes text =
    (mid : Option (List ℕ)) × AddsFront old mid notes × AddsFront mid new text × ((HasRisen faults_old faults_new → ⊥) → Adds old new (notes ++ text))
