-- How a run of a command ends, by the way it ended.
use Rattle.std.specs.Prelude.{◌≡◌, ℕ, map, List, [], ◌∷◌, ◌++◌, Option, Bool, true, false, Result, Ok, Err, ◌⊎◌, codes}
use Rattle.std.specs.List.{concat}
use Rattle.lkb_io.specs.Outside.{HasRisen, IsAtEnd, Adds, AddsFront}
use Rattle.lkb_io.specs.Lines.{HasNoEnd, IsTooLong, lines_of}
use Rattle.endings.specs.declared.Stop.{Stop}
use Rattle.endings.specs.declared.Stop.TheVariants.{Read, TooLong, TooMany, Write, Gaps, NoMemory}
use Rattle.endings.specs.declared.Fault.{Fault}
use Rattle.endings.specs.declared.Fault.TheVariants.{Usage, Files as FilesFault, Stopped}
use Rattle.endings.specs.declared.Status.{Status}
use Rattle.endings.specs.declared.Status.TheVariants.{Done, Items, Usage as UsageStatus, Grammar as GrammarStatus, ReadFault, WriteFault, Gaps as GapsStatus, NoMemory as NoMemoryStatus}
use Rattle.endings.specs.Meanings.{Meaning, Shelves, FileFault, Fails}
use Rattle.endings.specs.declared.pieces.Report.{Report}
use Rattle.endings.specs.declared.commands.ItemsReport.{ItemsReport}
use Rattle.endings.specs.declared.commands.ItemsReport.TheVariants.{AllAnswered, WithGaps}
use Rattle.endings.specs.Reports.{Streams, output_of, IsFlushed, Served, IsServedTo, IsServedToLast, IsServedInPart, Said, IsSaidInPart}

-- How a command ends that met no fault of its files. `idle` says that the source is as it was.
abbrev pub Runs : Bool → (reports gaps : List (List ℕ) → List (List ℕ) → Bool → Type 0) → Streams → (idle : Type 0) → Result Bool Stop → Type 0
Runs true reports gaps o idle end = Served reports gaps o end
Runs false reports gaps o idle end = Said reports gaps (output_of o) end × idle

abbrev pub Ran : Meaning → Shelves → Streams → (idle : Type 0) → Result Bool Stop → Type 0
Ran m h o idle end = Runs m.reads (m.report h.files) (m.with_gaps h.files) o idle end

-- A front of the command's report was written, over lines that were read where it reads any.
abbrev pub RunsInPart : Bool → (List (List ℕ) → List (List ℕ) → Bool → Type 0) → Streams → Type 0
RunsInPart true reports o = IsServedInPart reports o
RunsInPart false reports o = IsSaidInPart reports (output_of o)

abbrev pub RanInPart : Meaning → Shelves → Streams → Type 0
RanInPart m h o = RunsInPart m.reads (m.report h.files) o

-- The same of the report in which memory may have been wanting for items; and what was written was flushed, unless the sink failed.
abbrev pub RanWithGaps : Meaning → Shelves → Streams → Type 0
RanWithGaps m h o = RunsInPart m.reads (m.with_gaps h.files) o × IsFlushed (output_of o)

-- The command reads lines, and the source failed, or 65,536 bytes came without a line end, or 2^64 - 1 lines came; exactly the report
-- over the lines before was written, and flushed, unless the sink failed.
abbrev pub StopsReading : Meaning → Shelves → Streams → Type 0
StopsReading m h o = (m.reads ≡ true) × ((((r : IsServedTo (m.report h.files) o) × HasNoEnd r.part × HasRisen o.in_old o.in_new)
    ⊎ ((r : IsServedTo (m.report h.files) o) × IsTooLong r.part))
    ⊎ IsServedToLast (m.report h.files) o) × IsFlushed (output_of o)

-- No fault of the shelf, the source or the sink was counted.
abbrev pub IsFaultless : Shelves → Streams → Type 0
IsFaultless h o = (HasRisen h.faults_old h.faults_new → ⊥) × (HasRisen o.in_old o.in_new → ⊥) × (HasRisen o.out_old o.out_new → ⊥)

-- The input was read to its end, where the command reads it.
abbrev pub IsReadThrough : Meaning → Option (List ℕ) → Type 0
IsReadThrough m left = m.reads ≡ true → IsAtEnd left

-- How a run of a command ends. `untouched` says that source and sink are as they were.
abbrev pub Ended : Meaning → Shelves → Streams → (idle untouched : Type 0) → Result Bool Fault → Type 0
Ended m h o idle untouched (Ok refused) = Ran m h o idle (Ok refused)
Ended m h o idle untouched (Err (Usage text)) = ⊥
Ended m h o idle untouched (Err (FilesFault text)) = (fault : FileFault) × Fails m h fault × (text.items ≡ fault.text ++ fault.details) × untouched
Ended m h o idle untouched (Err (Stopped NoMemory)) = untouched ⊎ Ran m h o idle (Err NoMemory)
Ended m h o idle untouched (Err (Stopped stop)) = Ran m h o idle (Err stop)

-- the status of each end
abbrev pub status_of : Result Bool Fault → Status
status_of (Ok false) = Done
status_of (Ok true) = Items
status_of (Err (Usage text)) = UsageStatus
status_of (Err (FilesFault text)) = GrammarStatus
status_of (Err (Stopped Read)) = ReadFault
status_of (Err (Stopped TooLong)) = ReadFault
status_of (Err (Stopped TooMany)) = ReadFault
status_of (Err (Stopped Write)) = WriteFault
status_of (Err (Stopped Gaps)) = GapsStatus
status_of (Err (Stopped NoMemory)) = NoMemoryStatus

-- the number by which a status goes out
abbrev pub code_of : Status → ℕ
code_of Done = 0
code_of UsageStatus = 2
code_of GrammarStatus = 3
code_of Items = 4
code_of ReadFault = 5
code_of WriteFault = 6
code_of GapsStatus = 7
code_of NoMemoryStatus = 7

-- whether the status says that something is refused
abbrev pub is_items : Status → Bool
is_items Items = true
is_items other = false

abbrev pub usage_line : List ℕ
usage_line = codes "usage: lkb parse|chart|explain|generate|types|check GRAMMAR, lkb expand GRAMMAR NAME, lkb self-test NUMBER SIZE, lkb scope, lkb batch GRAMMAR PROFILE, lkb transfer RULES, with options" ++ 10 ∷ []

-- what is told of a word that is outside the form
abbrev pub word_text : Result Bool Fault → List ℕ
word_text (Err (Usage text)) = text.items
word_text other = []

-- what is told of each end
abbrev pub fault_text : Result Bool Fault → List ℕ
fault_text (Ok refused) = []
fault_text (Err (Usage text)) = usage_line ++ text.items
fault_text (Err (FilesFault text)) = text.items
fault_text (Err (Stopped Read)) = codes "lkb: read fault" ++ 10 ∷ []
fault_text (Err (Stopped TooLong)) = codes "lkb: line too long" ++ 10 ∷ []
fault_text (Err (Stopped TooMany)) = codes "lkb: read fault" ++ 10 ∷ []
fault_text (Err (Stopped Write)) = codes "lkb: write fault" ++ 10 ∷ []
fault_text (Err (Stopped Gaps)) = codes "lkb: no memory" ++ 10 ∷ []
fault_text (Err (Stopped NoMemory)) = codes "lkb: no memory" ++ 10 ∷ []

-- The whole report over the lines of these bytes was written, and the status says whether something is refused; or memory was wanting for some
-- of its items, and the whole report was written in which these are told; or memory was wanting elsewhere.
abbrev pub IsWhole : Meaning → Shelves → Streams → List ℕ → Status → Type 0
IsWhole m h o bytes status = (status ≡ NoMemoryStatus)
    ⊎ (((status ≡ GapsStatus) × (pieces : List (List ℕ)) × m.with_gaps h.files (lines_of bytes) pieces true × Adds o.written_old o.written_new (concat pieces))
    ⊎ ((pieces : List (List ℕ)) × (refused : Bool) × m.report h.files (lines_of bytes) pieces refused
    × Adds o.written_old o.written_new (concat pieces) × (status ≡ status_of (Ok refused))))

-- A front of the text was written to the error stream, and the whole of it where no fault of that stream was counted.
abbrev pub Tells : Option (List ℕ) → Option (List ℕ) → ℕ → ℕ → List ℕ → Type 0
Tells old new faults_old faults_new text = AddsFront old new text × ((HasRisen faults_old faults_new → ⊥) → Adds old new text)

-- Why nothing came of a command's files: their first fault, or want of memory.
abbrev pub NotCome : Meaning → Shelves → Fault → Type 0
NotCome m h (FilesFault text) = (fault : FileFault) × Fails m h fault × (text.items ≡ fault.text ++ fault.details)
NotCome m h (Stopped NoMemory) = Unit {0}
NotCome m h fault = ⊥

-- What comes of a command's files: what is said of the result, or why there is none.
abbrev pub Comes : {X : Type 0} → (X → Type 0) → Meaning → Shelves → Result X Fault → Type 0
Comes good m h (Ok x) = good x
Comes good m h (Err fault) = NotCome m h fault

-- The whole report of a command, whatever the lines of the input are.
abbrev pub Made : Meaning → Shelves → Result Report Fault → Type 0
Made m h = Comes (λ r. (lines : List (List ℕ)) → m.report h.files lines (map (λ l. l.items) r.lines.items) r.refused) m h

-- The whole report of a command with items, or where memory was wanting for some of them the one in which these are told.
abbrev pub IsReportOn : Meaning → Shelves → ItemsReport → List (List ℕ) → Type 0
IsReportOn m h (AllAnswered r) lines = m.report h.files lines (map (λ l. l.items) r.lines.items) r.refused
IsReportOn m h (WithGaps gapped) lines = m.with_gaps h.files lines (map (λ l. l.items) gapped.items) true

abbrev pub MadeOfItems : Meaning → Shelves → Result ItemsReport Fault → Type 0
MadeOfItems m h = Comes (λ r. (lines : List (List ℕ)) → IsReportOn m h r lines) m h
