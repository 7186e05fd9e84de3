-- What follows from how a run ended.
use Rattle.std.proofs.Common.{◌≡◌, ℕ, ◌∙◌, sym, ap, refl, List, [], ◌++◌, Bool, true, false, subst, Option, Some, Err, Ok, Result, inl, inr, ◌⊎◌, arith}
use Rattle.std.specs.List.{concat}
use Rattle.lkb_io.specs.Outside.{HasRisen, Adds, IsAtEnd}
use Rattle.lkb_io.specs.Lines.{HasNoEnd, IsTooLong, lines_of}
use Rattle.endings.specs.declared.Stop.{Stop}
use Rattle.endings.specs.declared.Stop.TheVariants.{Read, TooLong, TooMany, Write, Gaps, NoMemory}
use Rattle.endings.specs.declared.Fault.{Fault}
use Rattle.endings.specs.declared.Fault.TheVariants.{Usage, Files as FilesFault, Stopped}
use Rattle.endings.specs.declared.Status.TheVariants.{Done, Items, Usage as UsageStatus, Grammar as GrammarStatus, ReadFault, WriteFault, Gaps as GapsStatus, NoMemory as NoMemoryStatus}
use Rattle.endings.specs.Readings.{ReadsAll, ReadsPart, Reads, AreReadable}
use Rattle.endings.specs.Reports.{Streams, output_of, IsFlushed, IsServedTo, IsServedToLast}
use Rattle.endings.specs.Meanings.{Meaning, Shelves, FileFault, Fails, Lawful}
use Rattle.endings.specs.Endings.{Runs, RunsInPart, Ran, RanInPart, RanWithGaps, StopsReading, IsReadThrough, Ended, IsFaultless, IsWhole, status_of, is_items, fault_text}
use Rattle.endings.proofs.Long.{no-long, no-more}

abbrev Reports : Type 1
Reports = List (List ℕ) → List (List ℕ) → Bool → Type 0

-- ---- over what a command reads

runs-flushed : (b : Bool) (reports gaps : Reports) (o : Streams) (idle : Type 0) (refused : Bool) → Runs b reports gaps o idle (Ok refused) → o.flushed_new ≡ o.written_new
runs-flushed true reports gaps o idle refused s = s.flushed
runs-flushed false reports gaps o idle refused s = s.0.flushed

runs-report : (b : Bool) (reports gaps : Reports) (o : Streams) (idle : Type 0) (refused : Bool) (bytes : List ℕ) → Runs b reports gaps o idle (Ok refused) → o.left_old ≡ Some bytes
    → (pieces : List (List ℕ)) × reports (lines_of bytes) pieces refused × Adds o.written_old o.written_new (concat pieces) × (b ≡ true → IsAtEnd o.left_new)
runs-report true reports gaps o idle refused bytes s l =
    let reads = subst (λ left. ReadsAll left o.left_new s.lines) l s.reads in
    (s.pieces, subst (λ lines. reports lines s.pieces refused) reads.0 s.report, s.writes, λ e. reads.2)
runs-report false reports gaps o idle refused bytes s l = (s.0.pieces, s.0.report (lines_of bytes), s.0.writes, λ e. cc)

-- A run over lines that came to its end could read each of them.
runs-readable : (b : Bool) → b ≡ true → (reports gaps : Reports) (o : Streams) (idle : Type 0) (refused : Bool) (bytes : List ℕ) → Runs b reports gaps o idle (Ok refused) → o.left_old ≡ Some bytes → AreReadable (lines_of bytes)
runs-readable true is reports gaps o idle refused bytes s l =
    let reads = subst (λ left. ReadsAll left o.left_new s.lines) l s.reads in
    subst AreReadable reads.0 (reads.1, s.few)
runs-readable false is reports gaps o idle refused bytes s l = cc

-- some report of the command, of a run that began
abbrev SomeReport : Reports → Type 0
SomeReport reports = (lines : List (List ℕ)) × (pieces : List (List ℕ)) × (refused : Bool) × reports lines pieces refused

runs-some : (b : Bool) (reports gaps : Reports) (o : Streams) (idle : Type 0) (end : Result Bool Stop) → Runs b reports gaps o idle end → SomeReport reports ⊎ SomeReport gaps
runs-some true reports gaps o idle (Ok refused) s = inl (s.lines, s.pieces, refused, s.report)
runs-some true reports gaps o idle (Err Read) s = let r = s.0.0 in inl (r.lines, r.pieces, r.refused, r.report)
runs-some true reports gaps o idle (Err TooLong) s = let r = s.0.0 in inl (r.lines, r.pieces, r.refused, r.report)
runs-some true reports gaps o idle (Err TooMany) s = let r = s.0 in inl (r.lines, r.pieces, r.refused, r.report)
runs-some true reports gaps o idle (Err Write) s = let r = s.0.0 in inl (r.lines, r.pieces, r.refused, r.report)
runs-some true reports gaps o idle (Err Gaps) s = let r = s.0 in inr (r.lines, r.pieces, true, r.report)
runs-some true reports gaps o idle (Err NoMemory) s = let r = s.0 in inr (r.lines, r.pieces, r.refused, r.report)
runs-some false reports gaps o idle (Ok refused) s = inl ([], s.0.pieces, refused, s.0.report [])
runs-some false reports gaps o idle (Err Read) s = absurd s.0.0
runs-some false reports gaps o idle (Err TooLong) s = absurd s.0.0
runs-some false reports gaps o idle (Err TooMany) s = absurd s.0.0
runs-some false reports gaps o idle (Err Write) s = let r = s.0.0.0 in inl ([], r.pieces, r.refused, r.report [])
runs-some false reports gaps o idle (Err Gaps) s = let r = s.0.0 in inr ([], r.pieces, true, r.report [])
runs-some false reports gaps o idle (Err NoMemory) s = let r = s.0.0 in inr ([], r.pieces, r.refused, r.report [])

runs-write : (b : Bool) (reports gaps : Reports) (o : Streams) (idle : Type 0) → Runs b reports gaps o idle (Err Write) → RunsInPart b reports o × HasRisen o.out_old o.out_new
runs-write true reports gaps o idle s = s.0
runs-write false reports gaps o idle s = s.0.0

runs-no_memory : (b : Bool) (reports gaps : Reports) (o : Streams) (idle : Type 0) → Runs b reports gaps o idle (Err NoMemory) → RunsInPart b gaps o
runs-no_memory true reports gaps o idle s = s.0
runs-no_memory false reports gaps o idle s = s.0.0

-- where a run stops, what was written was flushed, unless the sink failed
stops-flushed : (b : Bool) (reports gaps : Reports) (o : Streams) (idle : Type 0) (stop : Stop) → Runs b reports gaps o idle (Err stop) → IsFlushed (output_of o)
stops-flushed true reports gaps o idle stop s = s.1
stops-flushed false reports gaps o idle stop s = s.0.1

-- a run that came to its end with gaps
runs-gaps : (b : Bool) (reports gaps : Reports) (o : Streams) (idle : Type 0) (bytes : List ℕ) → Runs b reports gaps o idle (Err Gaps) → o.left_old ≡ Some bytes
    → (pieces : List (List ℕ)) × gaps (lines_of bytes) pieces true × Adds o.written_old o.written_new (concat pieces) × (b ≡ true → IsAtEnd o.left_new) × (o.flushed_new ≡ o.written_new)
runs-gaps true reports gaps o idle bytes s l =
    let r = s.0 in
    let reads = subst (λ left. ReadsAll left o.left_new r.lines) l r.reads in
    (r.pieces, subst (λ lines. gaps lines r.pieces true) reads.0 r.report, r.writes, λ e. reads.2, r.flushed)
runs-gaps false reports gaps o idle bytes s l = let r = s.0.0 in (r.pieces, r.report (lines_of bytes), r.writes, λ e. cc, r.flushed)

-- so each of its lines could be read
runs-gaps-readable : (b : Bool) → b ≡ true → (reports gaps : Reports) (o : Streams) (idle : Type 0) (bytes : List ℕ) → Runs b reports gaps o idle (Err Gaps) → o.left_old ≡ Some bytes → AreReadable (lines_of bytes)
runs-gaps-readable true is reports gaps o idle bytes s l =
    let r = s.0 in
    let reads = subst (λ left. ReadsAll left o.left_new r.lines) l r.reads in
    subst AreReadable reads.0 (reads.1, r.few)
runs-gaps-readable false is reports gaps o idle bytes s l = cc

-- a run that stops at the input
abbrev StopsBy : Bool → Reports → Streams → Type 0
StopsBy b reports o = (b ≡ true) × ((((r : IsServedTo reports o) × HasNoEnd r.part × HasRisen o.in_old o.in_new) ⊎ ((r : IsServedTo reports o) × IsTooLong r.part)) ⊎ IsServedToLast reports o)

runs-stop : (b : Bool) (reports gaps : Reports) (o : Streams) (idle : Type 0) (stop : Stop) → Runs b reports gaps o idle (Err stop) → status_of (Err (Stopped stop)) ≡ ReadFault → StopsBy b reports o
runs-stop true reports gaps o idle Read s e = (refl, inl (inl s.0))
runs-stop true reports gaps o idle TooLong s e = (refl, inl (inr s.0))
runs-stop true reports gaps o idle TooMany s e = (refl, inr s.0)
runs-stop true reports gaps o idle Write s e = cc
runs-stop true reports gaps o idle Gaps s e = cc
runs-stop true reports gaps o idle NoMemory s e = cc
runs-stop false reports gaps o idle Read s e = absurd s.0.0
runs-stop false reports gaps o idle TooLong s e = absurd s.0.0
runs-stop false reports gaps o idle TooMany s e = absurd s.0.0
runs-stop false reports gaps o idle Write s e = cc
runs-stop false reports gaps o idle Gaps s e = cc
runs-stop false reports gaps o idle NoMemory s e = cc

-- where the source counted no fault, such a run met a line that can't be read
stops-late : (b : Bool) (reports : Reports) (o : Streams) (bytes : List ℕ) → StopsBy b reports o → (HasRisen o.in_old o.in_new → ⊥) → o.left_old ≡ Some bytes → AreReadable (lines_of bytes) → ⊥
stops-late b reports o bytes (is, inl (inl s)) calm l can = calm s.2
stops-late b reports o bytes (is, inl (inr s)) calm l can =
    no-long bytes o.left_new s.0.lines s.0.part (subst (λ left. ReadsPart left o.left_new s.0.lines s.0.part) l s.0.reads) s.1 can.0
stops-late b reports o bytes (is, inr r) calm l can =
    let le = no-more bytes o.left_new r.lines r.part (subst (λ left. Reads left o.left_new r.lines r.part) l r.reads) in
    let n = r.many in
    let few = can.1 in
    omega (arith, le, n, few)

adds-told : (old new : Option (List ℕ)) (before after piece : List ℕ) → old ≡ Some before → new ≡ Some after → Adds old new piece → after ≡ before ++ piece
adds-told old new before after piece w v a = let told = subst (λ n. Adds (Some before) n piece) v (subst (λ m. Adds m new piece) w a) in told

items-refused : (refused : Bool) → is_items (status_of (Ok refused)) ≡ refused
items-refused true = refl
items-refused false = refl

-- ---- over a command
module _ (m : Meaning) (h : Shelves) (o : Streams) (idle untouched : Type 0) where
  completed : (end : Result Bool Fault) → Ended m h o idle untouched end → (status_of end ≡ Done) ⊎ (status_of end ≡ Items)
      → (refused : Bool) × (end ≡ Ok refused) × Ran m h o idle (Ok refused)
  completed (Ok refused) s d = (refused, refl, s)
  completed (Err (Usage text)) s d = absurd s
  completed (Err (FilesFault text)) s (inl e) = cc
  completed (Err (FilesFault text)) s (inr e) = cc
  completed (Err (Stopped Read)) s (inl e) = cc
  completed (Err (Stopped Read)) s (inr e) = cc
  completed (Err (Stopped TooLong)) s (inl e) = cc
  completed (Err (Stopped TooLong)) s (inr e) = cc
  completed (Err (Stopped TooMany)) s (inl e) = cc
  completed (Err (Stopped TooMany)) s (inr e) = cc
  completed (Err (Stopped Write)) s (inl e) = cc
  completed (Err (Stopped Write)) s (inr e) = cc
  completed (Err (Stopped Gaps)) s (inl e) = cc
  completed (Err (Stopped Gaps)) s (inr e) = cc
  completed (Err (Stopped NoMemory)) s (inl e) = cc
  completed (Err (Stopped NoMemory)) s (inr e) = cc

  pub flushed-so : (end : Result Bool Fault) → Ended m h o idle untouched end → (status_of end ≡ Done) ⊎ (status_of end ≡ Items) → o.flushed_new ≡ o.written_new
  flushed-so end s d = let c = completed end s d in runs-flushed m.reads (m.report h.files) (m.with_gaps h.files) o idle c.0 c.2

  pub report-so : (end : Result Bool Fault) (bytes before after : List ℕ) → Ended m h o idle untouched end → (status_of end ≡ Done) ⊎ (status_of end ≡ Items)
      → o.left_old ≡ Some bytes → o.written_old ≡ Some before → o.written_new ≡ Some after
      → (pieces : List (List ℕ)) × m.report h.files (lines_of bytes) pieces (is_items (status_of end)) × (after ≡ before ++ concat pieces) × IsReadThrough m o.left_new
  report-so end bytes before after s d l w v =
      let c = completed end s d in
      let r = runs-report m.reads (m.report h.files) (m.with_gaps h.files) o idle c.0 bytes c.2 l in (
        r.0,
        subst (m.report h.files (lines_of bytes) r.0) (sym (ap (λ e. is_items (status_of e)) c.1 ∙ items-refused c.0)) r.1,
        adds-told o.written_old o.written_new before after (concat r.0) w v r.2,
        r.3,
      )

  pub no-usage : (end : Result Bool Fault) → Ended m h o idle untouched end → status_of end ≡ UsageStatus → ⊥
  no-usage (Ok true) s e = cc
  no-usage (Ok false) s e = cc
  no-usage (Err (Usage text)) s e = s
  no-usage (Err (FilesFault text)) s e = cc
  no-usage (Err (Stopped Read)) s e = cc
  no-usage (Err (Stopped TooLong)) s e = cc
  no-usage (Err (Stopped TooMany)) s e = cc
  no-usage (Err (Stopped Write)) s e = cc
  no-usage (Err (Stopped Gaps)) s e = cc
  no-usage (Err (Stopped NoMemory)) s e = cc

  pub grammar-so : (end : Result Bool Fault) → Ended m h o idle untouched end → status_of end ≡ GrammarStatus → (fault : FileFault) × Fails m h fault × (fault_text end ≡ fault.text ++ fault.details) × untouched
  grammar-so (Ok true) s e = cc
  grammar-so (Ok false) s e = cc
  grammar-so (Err (Usage text)) s e = absurd s
  grammar-so (Err (FilesFault text)) s e = s
  grammar-so (Err (Stopped Read)) s e = cc
  grammar-so (Err (Stopped TooLong)) s e = cc
  grammar-so (Err (Stopped TooMany)) s e = cc
  grammar-so (Err (Stopped Write)) s e = cc
  grammar-so (Err (Stopped Gaps)) s e = cc
  grammar-so (Err (Stopped NoMemory)) s e = cc

  -- a run that began had files without a fault
  loaded : Lawful m → (end : Result Bool Stop) → Ran m h o idle end → m.loadable h.files
  loaded laws end s = elim (runs-some m.reads (m.report h.files) (m.with_gaps h.files) o idle end s) [
    | inl r ↦ laws.loads h.files r.0 r.1 r.2 r.3
    | inr r ↦ laws.gaps_load h.files r.0 r.1 r.2 r.3
  ]

  pub no-grammar : (end : Result Bool Fault) → Lawful m → Ended m h o idle untouched end → (m.loadable h.files → ⊥) → (status_of end ≡ GrammarStatus) ⊎ (status_of end ≡ NoMemoryStatus)
  no-grammar (Ok refused) laws s n = absurd (n (loaded laws (Ok refused) s))
  no-grammar (Err (Usage text)) laws s n = absurd s
  no-grammar (Err (FilesFault text)) laws s n = inl refl
  no-grammar (Err (Stopped Read)) laws s n = absurd (n (loaded laws (Err Read) s))
  no-grammar (Err (Stopped TooLong)) laws s n = absurd (n (loaded laws (Err TooLong) s))
  no-grammar (Err (Stopped TooMany)) laws s n = absurd (n (loaded laws (Err TooMany) s))
  no-grammar (Err (Stopped Write)) laws s n = absurd (n (loaded laws (Err Write) s))
  no-grammar (Err (Stopped Gaps)) laws s n = absurd (n (loaded laws (Err Gaps) s))
  no-grammar (Err (Stopped NoMemory)) laws s n = inr refl

  abbrev Told : Result Bool Fault → FileFault → Type 0
  Told end fault = (status_of end ≡ NoMemoryStatus) ⊎ ((status_of end ≡ GrammarStatus) × (told : FileFault) × m.first h.files (λ name. false) told × (told.text ≡ fault.text) × (fault_text end ≡ told.text ++ told.details))

  no-run : (files : List ℕ → Option (List ℕ)) (fault : FileFault) (end : Result Bool Stop) → Lawful m → h.files ≡ Some files → m.first (Some files) (λ name. false) fault → Ran m h o idle end → ⊥
  no-run files fault end laws e first s = laws.not_both files fault (subst m.loadable e (loaded laws end s)) first

  pub first-so : (end : Result Bool Fault) (files : List ℕ → Option (List ℕ)) (fault : FileFault) → Lawful m → Ended m h o idle untouched end → h.files ≡ Some files
      → m.first (Some files) (λ name. false) fault → (HasRisen h.faults_old h.faults_new → ⊥) → Told end fault
  first-so (Ok refused) files fault laws s e first calm = absurd (no-run files fault (Ok refused) laws e first s)
  first-so (Err (Usage text)) files fault laws s e first calm = absurd s
  first-so (Err (FilesFault text)) files fault laws s e first calm =
      let own = laws.calm h s.0 s.1 calm in
      inr (refl, s.0, own, laws.one_first files s.0 fault (subst (λ x. m.first x (λ name. false) s.0) e own) first, s.2)
  first-so (Err (Stopped NoMemory)) files fault laws s e first calm = inl refl
  first-so (Err (Stopped Read)) files fault laws s e first calm = absurd (no-run files fault (Err Read) laws e first s)
  first-so (Err (Stopped TooLong)) files fault laws s e first calm = absurd (no-run files fault (Err TooLong) laws e first s)
  first-so (Err (Stopped TooMany)) files fault laws s e first calm = absurd (no-run files fault (Err TooMany) laws e first s)
  first-so (Err (Stopped Write)) files fault laws s e first calm = absurd (no-run files fault (Err Write) laws e first s)
  first-so (Err (Stopped Gaps)) files fault laws s e first calm = absurd (no-run files fault (Err Gaps) laws e first s)

  -- a run that stops at the input
  at-input : (stop : Stop) → Ran m h o idle (Err stop) → status_of (Err (Stopped stop)) ≡ ReadFault → StopsReading m h o
  at-input stop s e =
      let r = runs-stop m.reads (m.report h.files) (m.with_gaps h.files) o idle stop s e in
      (r.0, r.1, stops-flushed m.reads (m.report h.files) (m.with_gaps h.files) o idle stop s)

  pub read-so : (end : Result Bool Fault) → Ended m h o idle untouched end → status_of end ≡ ReadFault → StopsReading m h o
  read-so (Ok true) s e = cc
  read-so (Ok false) s e = cc
  read-so (Err (Usage text)) s e = absurd s
  read-so (Err (FilesFault text)) s e = cc
  read-so (Err (Stopped Read)) s e = at-input Read s e
  read-so (Err (Stopped TooLong)) s e = at-input TooLong s e
  read-so (Err (Stopped TooMany)) s e = at-input TooMany s e
  read-so (Err (Stopped Write)) s e = cc
  read-so (Err (Stopped Gaps)) s e = cc
  read-so (Err (Stopped NoMemory)) s e = cc

  pub write-so : (end : Result Bool Fault) → Ended m h o idle untouched end → status_of end ≡ WriteFault → RanInPart m h o × HasRisen o.out_old o.out_new
  write-so (Ok true) s e = cc
  write-so (Ok false) s e = cc
  write-so (Err (Usage text)) s e = absurd s
  write-so (Err (FilesFault text)) s e = cc
  write-so (Err (Stopped Read)) s e = cc
  write-so (Err (Stopped TooLong)) s e = cc
  write-so (Err (Stopped TooMany)) s e = cc
  write-so (Err (Stopped Write)) s e = runs-write m.reads (m.report h.files) (m.with_gaps h.files) o idle s
  write-so (Err (Stopped Gaps)) s e = cc
  write-so (Err (Stopped NoMemory)) s e = cc

  in-part : untouched ⊎ Ran m h o idle (Err NoMemory) → untouched ⊎ RanWithGaps m h o
  in-part (inl u) = inl u
  in-part (inr r) = inr (runs-no_memory m.reads (m.report h.files) (m.with_gaps h.files) o idle r, stops-flushed m.reads (m.report h.files) (m.with_gaps h.files) o idle NoMemory r)

  pub memory-so : (end : Result Bool Fault) → Ended m h o idle untouched end → status_of end ≡ NoMemoryStatus → untouched ⊎ RanWithGaps m h o
  memory-so (Ok true) s e = cc
  memory-so (Ok false) s e = cc
  memory-so (Err (Usage text)) s e = absurd s
  memory-so (Err (FilesFault text)) s e = cc
  memory-so (Err (Stopped Read)) s e = cc
  memory-so (Err (Stopped TooLong)) s e = cc
  memory-so (Err (Stopped TooMany)) s e = cc
  memory-so (Err (Stopped Write)) s e = cc
  memory-so (Err (Stopped Gaps)) s e = cc
  memory-so (Err (Stopped NoMemory)) s e = in-part s

  pub complete-so : (end : Result Bool Fault) (files : List ℕ → Option (List ℕ)) (bytes : List ℕ) → Lawful m → Ended m h o idle untouched end → h.files ≡ Some files → o.left_old ≡ Some bytes
      → m.loadable (Some files) → AreReadable (lines_of bytes) → IsFaultless h o → IsWhole m h o bytes (status_of end)
  complete-so (Ok refused) files bytes laws s e l is can calm = let r = runs-report m.reads (m.report h.files) (m.with_gaps h.files) o idle refused bytes s l in inr (inr (r.0, refused, r.1, r.2, refl))
  complete-so (Err (Usage text)) files bytes laws s e l is can calm = absurd s
  complete-so (Err (FilesFault text)) files bytes laws s e l is can calm =
      absurd (laws.not_both files s.0 is (subst (λ x. m.first x (λ name. false) s.0) e (laws.calm h s.0 s.1 calm.0)))
  complete-so (Err (Stopped Read)) files bytes laws s e l is can calm = absurd (stops-late m.reads (m.report h.files) o bytes (runs-stop m.reads (m.report h.files) (m.with_gaps h.files) o idle Read s refl) calm.1 l can)
  complete-so (Err (Stopped TooLong)) files bytes laws s e l is can calm = absurd (stops-late m.reads (m.report h.files) o bytes (runs-stop m.reads (m.report h.files) (m.with_gaps h.files) o idle TooLong s refl) calm.1 l can)
  complete-so (Err (Stopped TooMany)) files bytes laws s e l is can calm = absurd (stops-late m.reads (m.report h.files) o bytes (runs-stop m.reads (m.report h.files) (m.with_gaps h.files) o idle TooMany s refl) calm.1 l can)
  complete-so (Err (Stopped Write)) files bytes laws s e l is can calm = absurd (calm.2 (runs-write m.reads (m.report h.files) (m.with_gaps h.files) o idle s).1)
  complete-so (Err (Stopped Gaps)) files bytes laws s e l is can calm = let r = runs-gaps m.reads (m.report h.files) (m.with_gaps h.files) o idle bytes s l in inr (inl (refl, r.0, r.1, r.2))
  complete-so (Err (Stopped NoMemory)) files bytes laws s e l is can calm = inl refl

  pub unread-so : (end : Result Bool Fault) (files : List ℕ → Option (List ℕ)) (bytes : List ℕ) → Lawful m → Ended m h o idle untouched end → m.reads ≡ true → h.files ≡ Some files → o.left_old ≡ Some bytes
      → m.loadable (Some files) → (AreReadable (lines_of bytes) → ⊥) → IsFaultless h o → (status_of end ≡ ReadFault) ⊎ (status_of end ≡ NoMemoryStatus)
  unread-so (Ok refused) files bytes laws s reads e l is can calm = absurd (can (runs-readable m.reads reads (m.report h.files) (m.with_gaps h.files) o idle refused bytes s l))
  unread-so (Err (Usage text)) files bytes laws s reads e l is can calm = absurd s
  unread-so (Err (FilesFault text)) files bytes laws s reads e l is can calm =
      absurd (laws.not_both files s.0 is (subst (λ x. m.first x (λ name. false) s.0) e (laws.calm h s.0 s.1 calm.0)))
  unread-so (Err (Stopped Read)) files bytes laws s reads e l is can calm = inl refl
  unread-so (Err (Stopped TooLong)) files bytes laws s reads e l is can calm = inl refl
  unread-so (Err (Stopped TooMany)) files bytes laws s reads e l is can calm = inl refl
  unread-so (Err (Stopped Write)) files bytes laws s reads e l is can calm = absurd (calm.2 (runs-write m.reads (m.report h.files) (m.with_gaps h.files) o idle s).1)
  unread-so (Err (Stopped Gaps)) files bytes laws s reads e l is can calm = absurd (can (runs-gaps-readable m.reads reads (m.report h.files) (m.with_gaps h.files) o idle bytes s l))
  unread-so (Err (Stopped NoMemory)) files bytes laws s reads e l is can calm = inr refl

  -- a run that came to its end, but that memory was wanting for some items
  pub gaps-so : (end : Result Bool Fault) (bytes before after : List ℕ) → Ended m h o idle untouched end → status_of end ≡ GapsStatus
      → o.left_old ≡ Some bytes → o.written_old ≡ Some before → o.written_new ≡ Some after
      → (pieces : List (List ℕ)) × m.with_gaps h.files (lines_of bytes) pieces true × (after ≡ before ++ concat pieces) × IsReadThrough m o.left_new × (o.flushed_new ≡ o.written_new)
  gaps-so (Ok true) bytes before after s e l w v = cc
  gaps-so (Ok false) bytes before after s e l w v = cc
  gaps-so (Err (Usage text)) bytes before after s e l w v = cc
  gaps-so (Err (FilesFault text)) bytes before after s e l w v = cc
  gaps-so (Err (Stopped Read)) bytes before after s e l w v = cc
  gaps-so (Err (Stopped TooLong)) bytes before after s e l w v = cc
  gaps-so (Err (Stopped TooMany)) bytes before after s e l w v = cc
  gaps-so (Err (Stopped Write)) bytes before after s e l w v = cc
  gaps-so (Err (Stopped NoMemory)) bytes before after s e l w v = cc
  gaps-so (Err (Stopped Gaps)) bytes before after s e l w v =
      let r = runs-gaps m.reads (m.report h.files) (m.with_gaps h.files) o idle bytes s l in
      (r.0, r.1, adds-told o.written_old o.written_new before after (concat r.0) w v r.2, r.3, r.4)
