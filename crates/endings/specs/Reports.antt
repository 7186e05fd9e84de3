-- The report over lines, and how a run over lines ends.
use Rattle.std.specs.Prelude.{◌≡◌, ℕ, ◌<◌, ◌≤◌, ◌^◌, ◌-◌, List, [], ◌∷◌, ◌++◌, length, codes, Option, Bool, true, false, ◌||◌, ◌⊎◌, suc, Result, Ok, Err}
use Rattle.std.specs.Fmt.{decimal}
use Rattle.std.specs.List.{concat}
use Rattle.lkb_io.specs.Outside.{HasRisen, Adds, AddsFront}
use Rattle.lkb_io.specs.Lines.{HasNoEnd, IsTooLong}
use Rattle.endings.specs.declared.Stop.{Stop}
use Rattle.endings.specs.declared.Stop.TheVariants.{Read, TooLong, TooMany, Write, Gaps, NoMemory}
use Rattle.endings.specs.Readings.{ReadsAll, ReadsPart, Reads}

-- The reports of lines that are numbered from here on, one after the other, and whether a line is refused.
-- The first argument says what an answer to a line is: by its number and the line, the report lines, and whether it is refused.
pub data AreAnswers (answers : ℕ → List ℕ → List (List ℕ) → Bool → Type 0) : ℕ → List (List ℕ) → List (List ℕ) → Bool → Type 0 where
  no_line : (n : ℕ) → AreAnswers answers n [] [] false
  a_line : (n : ℕ) (line : List ℕ) (lines own rest : List (List ℕ)) (refused later : Bool) → answers n line own refused
      → AreAnswers answers (suc n) lines rest later → AreAnswers answers n (line ∷ lines) (own ++ rest) (refused || later)

-- `item N no-memory`: the line of an item for which memory was wanting
abbrev pub no_memory_line : ℕ → List ℕ
no_memory_line number = codes "item " ++ decimal number ++ codes " no-memory" ++ 10 ∷ []

-- What stands in place of an answer where memory may have been wanting: the answer, or the line that tells it. The flag says whether it was.
pub data OrNoMemory (answers : ℕ → List ℕ → List (List ℕ) → Bool → Type 0) (n : ℕ) (line : List ℕ) : List (List ℕ) → Bool → Type 0 where
  answered : (own : List (List ℕ)) (refused : Bool) → answers n line own refused → OrNoMemory answers n line own false
  no_memory : OrNoMemory answers n line (no_memory_line n ∷ []) true

-- what the streams tell of a run, before and after it
pub record Streams : Type 0 where
  pub left_old : Option (List ℕ)
  pub left_new : Option (List ℕ)
  pub in_old : ℕ
  pub in_new : ℕ
  pub written_old : Option (List ℕ)
  pub written_new : Option (List ℕ)
  pub flushed_new : Option (List ℕ)
  pub out_old : ℕ
  pub out_new : ℕ

abbrev pub streams : {I O : Type 0} (left : I → Option (List ℕ)) (in_faults : I → ℕ) (written flushed : O → Option (List ℕ)) (out_faults : O → ℕ) → I → I → O → O → Streams
streams left in_faults written flushed out_faults input_old input_new out_old out_new = record { left_old = left input_old; left_new = left input_new; in_old = in_faults input_old; in_new = in_faults input_new; written_old = written out_old; written_new = written out_new; flushed_new = flushed out_new; out_old = out_faults out_old; out_new = out_faults out_new }

-- what a sink tells of a run, before and after it
pub record Output : Type 0 where
  pub written_old : Option (List ℕ)
  pub written_new : Option (List ℕ)
  pub flushed_new : Option (List ℕ)
  pub faults_old : ℕ
  pub faults_new : ℕ

abbrev pub output : {O : Type 0} (written flushed : O → Option (List ℕ)) (faults : O → ℕ) → O → O → Output
output written flushed faults out_old out_new = record { written_old = written out_old; written_new = written out_new; flushed_new = flushed out_new; faults_old = faults out_old; faults_new = faults out_new }

abbrev pub output_of : Streams → Output
output_of o = record { written_old = o.written_old; written_new = o.written_new; flushed_new = o.flushed_new; faults_old = o.out_old; faults_new = o.out_new }

-- All that was written was flushed, unless the sink failed.
abbrev pub IsFlushed : Output → Type 0
IsFlushed p = (p.flushed_new ≡ p.written_new) ⊎ HasRisen p.faults_old p.faults_new

-- This text was put: the whole of it at `Ok`, else a front of it, and a fault was counted.
abbrev pub IsPut : {X Y : Type 0} → List ℕ → Output → Result X Y → Type 0
IsPut text p (Ok x) = Adds p.written_old p.written_new text × (p.faults_old ≤ p.faults_new)
IsPut text p (Err y) = AddsFront p.written_old p.written_new text × (p.faults_old ≤ p.faults_new) × HasRisen p.faults_old p.faults_new

-- In what follows `reports` says what the report over lines is: the report lines, and whether a line is refused; and `gaps` what it is where
-- memory may have been wanting for items, and whether it was.

-- All lines were read, and their whole report was written and flushed.
pub record IsServed (reports : List (List ℕ) → List (List ℕ) → Bool → Type 0) (o : Streams) (refused : Bool) : Type 0 where
  pub lines : List (List ℕ)
  pub pieces : List (List ℕ)
  pub reads : ReadsAll o.left_old o.left_new lines
  pub report : reports lines pieces refused
  pub writes : Adds o.written_old o.written_new (concat pieces)
  pub flushed : o.flushed_new ≡ o.written_new
  pub few : length lines < 2 ^ 64 - 1

-- Exactly the report over the whole lines that were read was written, and a part was read of what follows them.
pub record IsServedTo (reports : List (List ℕ) → List (List ℕ) → Bool → Type 0) (o : Streams) : Type 0 where
  pub lines : List (List ℕ)
  pub part : List ℕ
  pub pieces : List (List ℕ)
  pub refused : Bool
  pub reads : ReadsPart o.left_old o.left_new lines part
  pub report : reports lines pieces refused
  pub writes : Adds o.written_old o.written_new (concat pieces)

-- So many lines were read that none can have a number, and exactly the report over them was written.
pub record IsServedToLast (reports : List (List ℕ) → List (List ℕ) → Bool → Type 0) (o : Streams) : Type 0 where
  pub lines : List (List ℕ)
  pub part : List ℕ
  pub pieces : List (List ℕ)
  pub refused : Bool
  pub reads : Reads o.left_old o.left_new lines part
  pub report : reports lines pieces refused
  pub writes : Adds o.written_old o.written_new (concat pieces)
  pub many : length lines ≡ 2 ^ 64 - 1

-- A front of the report over lines that were read was written.
pub record IsServedInPart (reports : List (List ℕ) → List (List ℕ) → Bool → Type 0) (o : Streams) : Type 0 where
  pub lines : List (List ℕ)
  pub part : List ℕ
  pub pieces : List (List ℕ)
  pub refused : Bool
  pub reads : Reads o.left_old o.left_new lines part
  pub report : reports lines pieces refused
  pub writes : AddsFront o.written_old o.written_new (concat pieces)

-- Where a run over lines stops. Where memory was wanting for an item, a run that comes to its end stops so; one that is stopped later counts
-- as stopped for want of memory.
abbrev pub Stops : (reports gaps : List (List ℕ) → List (List ℕ) → Bool → Type 0) → Streams → Stop → Type 0
Stops reports gaps o Read = (r : IsServedTo reports o) × HasNoEnd r.part × HasRisen o.in_old o.in_new
Stops reports gaps o TooLong = (r : IsServedTo reports o) × IsTooLong r.part
Stops reports gaps o TooMany = IsServedToLast reports o
Stops reports gaps o Write = IsServedInPart reports o × HasRisen o.out_old o.out_new
Stops reports gaps o Gaps = IsServed gaps o true
Stops reports gaps o NoMemory = IsServedInPart gaps o

-- How a run over lines ends. Where it stops, what was written was flushed, unless the sink failed.
abbrev pub Served : (reports gaps : List (List ℕ) → List (List ℕ) → Bool → Type 0) → Streams → Result Bool Stop → Type 0
Served reports gaps o (Ok refused) = IsServed reports o refused
Served reports gaps o (Err stop) = Stops reports gaps o stop × IsFlushed (output_of o)

-- The whole report of a command that reads no lines was written and flushed.
pub record IsSaid (reports : List (List ℕ) → List (List ℕ) → Bool → Type 0) (p : Output) (refused : Bool) : Type 0 where
  pub pieces : List (List ℕ)
  -- the lines of the input say nothing to it
  pub report : (lines : List (List ℕ)) → reports lines pieces refused
  pub writes : Adds p.written_old p.written_new (concat pieces)
  pub flushed : p.flushed_new ≡ p.written_new

-- A front of the report of a command that reads no lines was written.
pub record IsSaidInPart (reports : List (List ℕ) → List (List ℕ) → Bool → Type 0) (p : Output) : Type 0 where
  pub pieces : List (List ℕ)
  pub refused : Bool
  pub report : (lines : List (List ℕ)) → reports lines pieces refused
  pub writes : AddsFront p.written_old p.written_new (concat pieces)

-- Where the writing of a report stops that reads no lines.
abbrev pub StopsSaying : (reports gaps : List (List ℕ) → List (List ℕ) → Bool → Type 0) → Output → Stop → Type 0
StopsSaying reports gaps p Write = IsSaidInPart reports p × HasRisen p.faults_old p.faults_new
StopsSaying reports gaps p Gaps = IsSaid gaps p true
StopsSaying reports gaps p NoMemory = IsSaidInPart gaps p
StopsSaying reports gaps p stop = ⊥

-- How a report ends that is written without reading lines. Where it stops, what was written was flushed, unless the sink failed.
abbrev pub Said : (reports gaps : List (List ℕ) → List (List ℕ) → Bool → Type 0) → Output → Result Bool Stop → Type 0
Said reports gaps p (Ok refused) = IsSaid reports p refused
Said reports gaps p (Err stop) = StopsSaying reports gaps p stop × IsFlushed p

-- the report that has these report lines, and tells this of a refusal
abbrev pub Exactly : List (List ℕ) → Bool → List (List ℕ) → List (List ℕ) → Bool → Type 0
Exactly own told lines pieces refused = (pieces ≡ own) × (refused ≡ told)

-- no report: where none with gaps can be, or none without
abbrev pub NoReport : List (List ℕ) → List (List ℕ) → Bool → Type 0
NoReport lines pieces flag = ⊥
