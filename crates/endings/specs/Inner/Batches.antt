-- Batches of lines: how they are gathered, and their answers.
use Rattle.std.specs.Prelude.{◌≡◌, ℕ, ◌≤◌, ◌^◌, ◌-◌, length, suc, List, [], ◌∷◌, ◌++◌, map, Option, None, Some, is_none, Result, Ok, Err, Bool, true, false, ◌||◌}
use Rattle.std.specs.List.{concat, list_any}
use Rattle.lkb_io.specs.declared.lines.LineFault.{LineFault}
use Rattle.lkb_io.specs.declared.lines.LineFault.TheVariants.{Failed, TooLong, NoMemory}
use Rattle.lkb_io.specs.Outside.{HasRisen, Adds, AddsFront}
use Rattle.lkb_io.specs.Lines.{HasNoEnd, IsTooLong, Kept}
use Rattle.endings.specs.declared.lines.Answer.{Answer}
use Rattle.endings.specs.declared.Stop.{Stop}
use Rattle.endings.specs.declared.Stop.TheVariants.{Read, TooLong as StopTooLong, TooMany, Write, Gaps, NoMemory as StopNoMemory}
use Rattle.endings.specs.Readings.{ReadsAll, ReadsPart, Reads, ReadsSoFar}
use Rattle.endings.specs.Reports.{no_memory_line, Streams, IsServed, IsServedTo, IsServedToLast, IsServedInPart}

-- These lines were read since the source told `old`; after a fault, what is held is what was read of the next line.
abbrev pub Gathered : {X : Type 0} (old new : Option (List ℕ)) (faults_old faults_new : ℕ) → Kept → List (List ℕ) → Result X LineFault → Type 0
Gathered old new faults_old faults_new held lines (Ok x) = ReadsSoFar old new held.bytes held.ended lines
Gathered old new faults_old faults_new held lines (Err Failed) = ReadsPart old new lines held.bytes × HasNoEnd held.bytes × HasRisen faults_old faults_new
Gathered old new faults_old faults_new held lines (Err TooLong) = ReadsPart old new lines held.bytes × IsTooLong held.bytes
Gathered old new faults_old faults_new held lines (Err NoMemory) = (part : List ℕ) × Reads old new lines part

-- some part of what follows these lines was read
abbrev pub ReadsSome : Option (List ℕ) → Option (List ℕ) → List (List ℕ) → Type 0
ReadsSome old new lines = (part : List ℕ) × Reads old new lines part

-- What was told of lines that are numbered from here on: each has its answer, or the line that says that memory was wanting for it. The flags
-- say whether a line is refused, and whether memory was wanting for one.
pub data AreTold (answers : ℕ → List ℕ → List (List ℕ) → Bool → Type 0) : ℕ → List (List ℕ) → List (List ℕ) → (refused wanting : Bool) → Type 0 where
  none_told : (n : ℕ) → AreTold answers n [] [] false false
  one_told : (n : ℕ) (line : List ℕ) (lines own rest : List (List ℕ)) (refused later wanting : Bool) → answers n line own refused
      → AreTold answers (suc n) lines rest later wanting → AreTold answers n (line ∷ lines) (own ++ rest) (refused || later) wanting
  one_gap : (n : ℕ) (line : List ℕ) (lines rest : List (List ℕ)) (later wanting : Bool)
      → AreTold answers (suc n) lines rest later wanting → AreTold answers n (line ∷ lines) (no_memory_line n ∷ rest) later true

-- what is told of the line of a number
abbrev pub told_lines : ℕ → Option Answer → List (List ℕ)
told_lines n (Some a) = map (λ l. l.items) a.report.lines.items
told_lines n None = no_memory_line n ∷ []

-- what is told of lines that are numbered from here on, one after the other
abbrev pub lines_of_all : ℕ → List (Option Answer) → List (List ℕ)
lines_of_all n [] = []
lines_of_all n (a ∷ rest) = told_lines n a ++ lines_of_all (suc n) rest

-- whether one of several answers tells that something is refused, and whether one is lacking
abbrev pub is_refusal : Option Answer → Bool
is_refusal (Some a) = a.report.refused
is_refusal None = false

abbrev pub is_one_refused : List (Option Answer) → Bool
is_one_refused answers = list_any is_refusal answers

abbrev pub is_one_wanting : List (Option Answer) → Bool
is_one_wanting answers = list_any is_none answers

-- What came of the line at a place among lines that are numbered from here on: its answer with its note, or nothing.
abbrev pub IsTold : (answers : ℕ → List ℕ → List (List ℕ) → Bool → Type 0) (notes : ℕ → List ℕ → List ℕ → Type 0) → ℕ → List ℕ → Option Answer → Type 0
IsTold answers notes number line (Some a) = answers number line (map (λ l. l.items) a.report.lines.items) a.report.refused × notes number line a.note.items
IsTold answers notes number line None = Unit {0}

-- the note of an answer
abbrev pub note_of : Option Answer → List ℕ
note_of (Some a) = a.note.items
note_of None = []

-- the notes of several answers, one after the other
abbrev pub notes_of_all : List (Option Answer) → List ℕ
notes_of_all answers = concat (map note_of answers)

-- What was told so far on the error stream, since it had told `old`: this text, or a front of it, where the stream failed. The flag says whether
-- it did; then nothing more is told.
abbrev pub IsNotedSoFar : Bool → Option (List ℕ) → Option (List ℕ) → ℕ → ℕ → List ℕ → Type 0
IsNotedSoFar false old new faults_old faults_new text = Adds old new text × (faults_old ≤ faults_new)
IsNotedSoFar true old new faults_old faults_new text = AddsFront old new text × (faults_old ≤ faults_new) × HasRisen faults_old faults_new

-- This was told after what was told before, whatever that was.
abbrev pub TellsMore : (failed fails : Bool) → Option (List ℕ) → Option (List ℕ) → ℕ → ℕ → List ℕ → Type 0
TellsMore failed fails old new faults_old faults_new text = (start : Option (List ℕ)) (faults : ℕ) (before : List ℕ)
    → IsNotedSoFar failed start old faults faults_old before → IsNotedSoFar fails start new faults faults_new (before ++ text)

-- The notes of a run over lines that ended so, before it is said whether memory was wanting for an item.
abbrev pub EndNotes : (notes : List (List ℕ) → List ℕ → Type 0) → Option (List ℕ) → Option (List ℕ) → List ℕ → Result Bool Stop → Type 0
EndNotes notes old new text (Ok refused) = (lines : List (List ℕ)) × ReadsAll old new lines × notes lines text
EndNotes notes old new text (Err Read) = (lines : List (List ℕ)) × (part : List ℕ) × ReadsPart old new lines part × HasNoEnd part × notes lines text
EndNotes notes old new text (Err StopTooLong) = (lines : List (List ℕ)) × (part : List ℕ) × ReadsPart old new lines part × IsTooLong part × notes lines text
EndNotes notes old new text (Err TooMany) = (lines : List (List ℕ)) × (part : List ℕ) × Reads old new lines part × (length lines ≡ 2 ^ 64 - 1) × notes lines text
EndNotes notes old new text (Err Gaps) = ⊥
EndNotes notes old new text (Err stop) = (lines : List (List ℕ)) × (part : List ℕ) × Reads old new lines part × notes lines text

-- What was told of some lines was put: all of it, or after a stop a front of it. A fault of the sink was counted.
abbrev pub IsToldPut : {X : Type 0} → List ℕ → Option (List ℕ) → Option (List ℕ) → ℕ → ℕ → Result X Stop → Type 0
IsToldPut text old new faults_old faults_new (Ok x) = Adds old new text
IsToldPut text old new faults_old faults_new (Err Write) = AddsFront old new text × HasRisen faults_old faults_new
IsToldPut text old new faults_old faults_new (Err StopNoMemory) = AddsFront old new text
IsToldPut text old new faults_old faults_new (Err stop) = ⊥

-- `later` is whether memory was wanting until now, where `before` says it of earlier lines and `wanting` of these. A stop for want of memory
-- is one whatever was wanting before.
abbrev pub IsFlag : {X : Type 0} → Result X Stop → (before wanting later : Bool) → Type 0
IsFlag (Err StopNoMemory) before wanting later = Unit {0}
IsFlag end before wanting later = later ≡ (before || wanting)

-- How the answers to some lines are written: all of them, or after a stop a front of what may be told of them.
abbrev pub ServedBatch : (answers : ℕ → List ℕ → List (List ℕ) → Bool → Type 0) → ℕ → List (List ℕ) → Option (List ℕ) → Option (List ℕ) → ℕ → ℕ → Bool → Bool → Result Bool Stop → Type 0
ServedBatch answers n lines old new faults_old faults_new before later (Ok refused) =
    (pieces : List (List ℕ)) × (wanting : Bool) × AreTold answers n lines pieces refused wanting × (later ≡ (before || wanting)) × Adds old new (concat pieces)
ServedBatch answers n lines old new faults_old faults_new before later (Err stop) =
    (pieces : List (List ℕ)) × (refused : Bool) × (wanting : Bool) × AreTold answers n lines pieces refused wanting × IsFlag {X = Bool} (Err stop) before wanting later
    × IsToldPut {X = Bool} (concat pieces) old new faults_old faults_new (Err stop)

-- How a run over lines ends where this is the report over them, with the flag that is told.
abbrev pub Ends : (reports : List (List ℕ) → List (List ℕ) → Bool → Type 0) → Streams → Result Bool Stop → Type 0
Ends reports o (Ok refused) = IsServed reports o refused
Ends reports o (Err Read) = (r : IsServedTo reports o) × HasNoEnd r.part × HasRisen o.in_old o.in_new
Ends reports o (Err StopTooLong) = (r : IsServedTo reports o) × IsTooLong r.part
Ends reports o (Err TooMany) = IsServedToLast reports o
Ends reports o (Err Write) = IsServedInPart reports o × HasRisen o.out_old o.out_new
Ends reports o (Err Gaps) = ⊥
Ends reports o (Err StopNoMemory) = IsServedInPart reports o

-- what is told of the lines, and whether memory was wanting for one
abbrev pub Told : (answers : ℕ → List ℕ → List (List ℕ) → Bool → Type 0) → (wanting : Bool) → List (List ℕ) → List (List ℕ) → Bool → Type 0
Told answers wanting lines pieces refused = AreTold answers 1 lines pieces refused wanting

-- how a run ends in which memory was wanting for an item, or not
abbrev pub end_with : Bool → Result Bool Stop → Result Bool Stop
end_with false end = end
end_with true (Ok refused) = Err Gaps
end_with true (Err stop) = Err StopNoMemory
