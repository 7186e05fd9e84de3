-- What a parser says.
use Rattle.std.specs.Prelude.{ℕ, ◌≡◌, Bool, true, false, List, [], Result}
use Rattle.morph_analysis.specs.Lattices.{LatticeTree}
use Rattle.endings.specs.declared.Stop.{Stop}
use Rattle.endings.specs.Reports.{Streams, Output, AreAnswers, OrNoMemory, Served}
use Rattle.endings.specs.Notes.{AreAllNotes, Noted}
use Rattle.engine.specs.Speeches.{Speech}
use Rattle.engine.specs.Views.{speech_of}
use Rattle.line_commands.specs.Answers.{Asked, IsTreesReport, IsAnswer}
use Rattle.line_commands.specs.Notes.{IsTreesNote, IsNote}
use Rattle.line_commands.specs.Views.{asked_with}
use Rattle.line_commands.specs.declared.answering.Parser.{Parser}

abbrev pub asked_of : Parser → Asked
asked_of p = asked_with p.limits p.lattice p.mrs

-- the lines of the answer to a lattice
abbrev pub IsReportOf : Parser → ℕ → LatticeTree → List (List ℕ) → Bool → Type 0
IsReportOf p = IsTreesReport (speech_of p.engine) (asked_of p)

-- the note on a lattice, where notes are told or not
abbrev pub IsLatticeNote : Bool → Speech → Asked → ℕ → LatticeTree → List ℕ → Type 0
IsLatticeNote false speech asked number lattice text = text ≡ []
IsLatticeNote true speech asked number lattice text = IsTreesNote speech asked number lattice text

abbrev pub IsNoteOf : Parser → ℕ → LatticeTree → List ℕ → Type 0
IsNoteOf p = IsLatticeNote p.verbose (speech_of p.engine) (asked_of p)

-- what a run over lines is that are parsed, with what is told on the error stream
abbrev pub IsParsedBy : Speech → Asked → Bool → Streams → Output → Result Bool Stop → Type 0
IsParsedBy speech asked verbose o p end = Served (AreAnswers (IsAnswer speech asked) 1) (AreAnswers (OrNoMemory (IsAnswer speech asked)) 1) o end
    × Noted (AreAllNotes (IsNote verbose speech asked)) o.left_old o.left_new p end
