-- What follows from how a run ended, of what was told on the error stream.
use Rattle.std.proofs.Common.{◌≡◌, ℕ, ◌≤◌, sym, refl, subst, List, [], ◌∷◌, Bool, true, false, Option, Some, Result, Ok, Err, inl, inr, ◌⊎◌, arith}
use Rattle.lkb_io.specs.Outside.{Adds, IsFront, AddsFront}
use Rattle.lkb_io.specs.Lines.{lines_of}
use Rattle.lkb_io.proofs.Told.{Adds-more, Adds-none}
use Rattle.endings.specs.declared.Stop.{Stop}
use Rattle.endings.specs.declared.Stop.TheVariants.{Read, TooLong, TooMany, Write, Gaps, NoMemory}
use Rattle.endings.specs.declared.Fault.{Fault}
use Rattle.endings.specs.declared.Fault.TheVariants.{Usage, Files as FilesFault, Stopped}
use Rattle.endings.specs.declared.Status.TheVariants.{Done, Items, Grammar as GrammarStatus}
use Rattle.endings.specs.Readings.{ReadsAll}
use Rattle.endings.specs.Meanings.{Meaning, Files, Shelves}
use Rattle.endings.specs.Reports.{Streams, Output, Served}
use Rattle.endings.specs.Endings.{Runs, Ended, status_of, Tells}
use Rattle.endings.specs.Notes.{NotesAt, Noted, RunNotes, AreNoted, IsNoted, TellsBoth}
use Rattle.endings.proofs.PieceLemmas.{AddsFront-second}

-- ---- what is told one after the other

pub tells-both : (a b c : Option (List ℕ)) (m n k : ℕ) (notes text : List ℕ) → m ≤ n → Tells a b m n notes → Tells b c n k text → n ≤ k → TellsBoth a c m k notes text
tells-both a b c m n k notes text le first second after =
    (b, first.0, second.0, λ calm. Adds-more a b c notes text (first.1 (λ r. calm (omega (arith, r, after)))) (second.1 (λ r. calm (omega (arith, r, le)))))

-- a text alone
pub tells-alone : (a c : Option (List ℕ)) (m k : ℕ) (text : List ℕ) → Tells a c m k text → TellsBoth a c m k [] text
tells-alone a c m k text told = (a, ([], ([], refl), Adds-none a), told.0, λ calm. told.1 calm)

front-none : (front : List ℕ) → IsFront front [] → front ≡ []
front-none [] h = refl
front-none (x ∷ xs) h = let e = h.1 in cc

-- where there are no notes
adds-none : (a b : Option (List ℕ)) → AddsFront a b [] → Adds a b []
adds-none a b f = subst (Adds a b) (front-none f.0 f.1) f.2

pub tells-quiet : (a b c : Option (List ℕ)) (m n k : ℕ) (notes text : List ℕ) → notes ≡ [] → m ≤ n → Tells a b m n notes → Tells b c n k text → Tells a c m k text
tells-quiet a b c m n k notes text e le first second =
    let none = adds-none a b (subst (AddsFront a b) e first.0) in
    (AddsFront-second a b c [] text none second.0, λ calm. Adds-more a b c [] text none (second.1 (λ r. calm (omega (arith, r, le)))))

-- ---- the notes of an end

pub is-ok : (end : Result Bool Fault) → (status_of end ≡ Done) ⊎ (status_of end ≡ Items) → (refused : Bool) × (end ≡ Ok refused)
is-ok (Ok refused) d = (refused, refl)
is-ok (Err (Usage text)) (inl e) = cc
is-ok (Err (Usage text)) (inr e) = cc
is-ok (Err (FilesFault text)) (inl e) = cc
is-ok (Err (FilesFault text)) (inr e) = cc
is-ok (Err (Stopped Read)) (inl e) = cc
is-ok (Err (Stopped Read)) (inr e) = cc
is-ok (Err (Stopped TooLong)) (inl e) = cc
is-ok (Err (Stopped TooLong)) (inr e) = cc
is-ok (Err (Stopped TooMany)) (inl e) = cc
is-ok (Err (Stopped TooMany)) (inr e) = cc
is-ok (Err (Stopped Write)) (inl e) = cc
is-ok (Err (Stopped Write)) (inr e) = cc
is-ok (Err (Stopped Gaps)) (inl e) = cc
is-ok (Err (Stopped Gaps)) (inr e) = cc
is-ok (Err (Stopped NoMemory)) (inl e) = cc
is-ok (Err (Stopped NoMemory)) (inr e) = cc

module _ (m : Meaning) (files : Files) (old new : Option (List ℕ)) (text : List ℕ) where
  over-lines : (b : Bool) (notes : Bool → List (List ℕ) → List ℕ → Type 0) (refused : Bool) (bytes : List ℕ) → RunNotes b notes old new text (Ok refused) → old ≡ Some bytes → notes false (lines_of bytes) text
  over-lines true notes refused bytes n l =
      let reads = subst (λ left. ReadsAll left new n.0) l n.1 in
      subst (λ lines. notes false lines text) reads.0 n.2
  over-lines false notes refused bytes n l = n false (lines_of bytes)

  -- of a run that came to its end
  pub notes-so : (refused : Bool) (bytes : List ℕ) → AreNoted m files old new text (Ok refused) → old ≡ Some bytes → m.notes files false (lines_of bytes) text
  notes-so refused bytes n l = over-lines m.reads (m.notes files) refused bytes n l

  -- where the files have a fault there are none
  pub quiet-so : (end : Result Bool Fault) → status_of end ≡ GrammarStatus → AreNoted m files old new text end → text ≡ []
  quiet-so (Ok true) e n = cc
  quiet-so (Ok false) e n = cc
  quiet-so (Err (Usage t)) e n = cc
  quiet-so (Err (FilesFault t)) e n = n
  quiet-so (Err (Stopped Read)) e n = cc
  quiet-so (Err (Stopped TooLong)) e n = cc
  quiet-so (Err (Stopped TooMany)) e n = cc
  quiet-so (Err (Stopped Write)) e n = cc
  quiet-so (Err (Stopped Gaps)) e n = cc
  quiet-so (Err (Stopped NoMemory)) e n = cc

-- ---- the notes of a command, for those who make one

-- nothing is told
pub tells-nothing : (old : Option (List ℕ)) (faults : ℕ) → (faults ≤ faults) × Tells old old faults faults []
tells-nothing old faults = (omega arith, (([], ([], refl), Adds-none old), λ calm. Adds-none old))

-- what a command without notes tells, however its run ended
module _ (m : Meaning) (h : Shelves) (o : Streams) (idle untouched : Type 0) (quiet : (gaps : Bool) (lines : List (List ℕ)) → m.notes h.files gaps lines []) where
  over-served : (end : Result Bool Stop) → Served (m.report h.files) (m.with_gaps h.files) o end → NotesAt (m.notes h.files) o.left_old o.left_new [] end
  over-served (Ok refused) s = (s.lines, s.reads, quiet false s.lines)
  over-served (Err Read) s = let r = s.0.0 in (r.lines, r.part, r.reads, s.0.1, quiet false r.lines)
  over-served (Err TooLong) s = let r = s.0.0 in (r.lines, r.part, r.reads, s.0.1, quiet false r.lines)
  over-served (Err TooMany) s = let r = s.0 in (r.lines, r.part, r.reads, r.many, quiet false r.lines)
  over-served (Err Write) s = let r = s.0.0 in (r.lines, r.part, r.reads, quiet false r.lines)
  over-served (Err Gaps) s = let r = s.0 in (r.lines, r.reads, quiet true r.lines)
  over-served (Err NoMemory) s = let r = s.0 in (r.lines, r.part, r.reads, quiet true r.lines)

  over-runs : (b : Bool) (end : Result Bool Stop) → Runs b (m.report h.files) (m.with_gaps h.files) o idle end → RunNotes b (m.notes h.files) o.left_old o.left_new [] end
  over-runs true end s = over-served end s
  over-runs false end s = quiet

  pub quiet-ended : (end : Result Bool Fault) → Ended m h o idle untouched end → AreNoted m h.files o.left_old o.left_new [] end
  quiet-ended (Ok refused) s = over-runs m.reads (Ok refused) s
  quiet-ended (Err (Usage text)) s = refl
  quiet-ended (Err (FilesFault text)) s = refl
  quiet-ended (Err (Stopped Read)) s = over-runs m.reads (Err Read) s
  quiet-ended (Err (Stopped TooLong)) s = over-runs m.reads (Err TooLong) s
  quiet-ended (Err (Stopped TooMany)) s = over-runs m.reads (Err TooMany) s
  quiet-ended (Err (Stopped Write)) s = over-runs m.reads (Err Write) s
  quiet-ended (Err (Stopped Gaps)) s = over-runs m.reads (Err Gaps) s
  quiet-ended (Err (Stopped NoMemory)) s = inl refl

module _ (m : Meaning) (files : Files) (old new : Option (List ℕ)) where
  -- a command that reads no lines, and one whose files have a fault
  pub none-noted : m.reads ≡ false → ((gaps : Bool) (lines : List (List ℕ)) → m.notes files gaps lines []) → (end : Result Bool Fault) → AreNoted m files old new [] end
  none-noted is quiet end = by_end end
    where
      run : (end : Result Bool Stop) → RunNotes m.reads (m.notes files) old new [] end
      run end = subst (λ b. RunNotes b (m.notes files) old new [] end) (sym is) quiet

      by_end : (end : Result Bool Fault) → AreNoted m files old new [] end
      by_end (Ok refused) = run (Ok refused)
      by_end (Err (Usage text)) = refl
      by_end (Err (FilesFault text)) = refl
      by_end (Err (Stopped Read)) = run (Err Read)
      by_end (Err (Stopped TooLong)) = run (Err TooLong)
      by_end (Err (Stopped TooMany)) = run (Err TooMany)
      by_end (Err (Stopped Write)) = run (Err Write)
      by_end (Err (Stopped Gaps)) = run (Err Gaps)
      by_end (Err (Stopped NoMemory)) = inl refl

  -- where one kind of notes is another
  abbrev Includes : (Bool → List (List ℕ) → List ℕ → Type 0) → Type 0
  Includes notes = (gaps : Bool) (lines : List (List ℕ)) (text : List ℕ) → notes gaps lines text → m.notes files gaps lines text

  notes-map : (notes : Bool → List (List ℕ) → List ℕ → Type 0) → Includes notes → (text : List ℕ) (end : Result Bool Stop) → NotesAt notes old new text end → NotesAt (m.notes files) old new text end
  notes-map notes f text (Ok refused) n = (n.0, n.1, f false n.0 text n.2)
  notes-map notes f text (Err Gaps) n = (n.0, n.1, f true n.0 text n.2)
  notes-map notes f text (Err Read) n = (n.0, n.1, n.2, n.3, f false n.0 text n.4)
  notes-map notes f text (Err TooLong) n = (n.0, n.1, n.2, n.3, f false n.0 text n.4)
  notes-map notes f text (Err TooMany) n = (n.0, n.1, n.2, n.3, f false n.0 text n.4)
  notes-map notes f text (Err Write) n = (n.0, n.1, n.2, f false n.0 text n.3)
  notes-map notes f text (Err NoMemory) n = (n.0, n.1, n.2, f true n.0 text n.3)

  run-so : (notes : Bool → List (List ℕ) → List ℕ → Type 0) → m.reads ≡ true → Includes notes → (text : List ℕ) (end : Result Bool Stop) → NotesAt notes old new text end → RunNotes m.reads (m.notes files) old new text end
  run-so notes is f text end n = subst (λ b. RunNotes b (m.notes files) old new text end) (sym is) (notes-map notes f text end n)

  stopped-so : (text : List ℕ) (stop : Stop) → RunNotes m.reads (m.notes files) old new text (Err stop) → AreNoted m files old new text (Err (Stopped stop))
  stopped-so text Read n = n
  stopped-so text TooLong n = n
  stopped-so text TooMany n = n
  stopped-so text Write n = n
  stopped-so text Gaps n = n
  stopped-so text NoMemory n = inr n

  -- a command that reads lines: the notes on them, where they are its notes
  pub lines-noted : (notes : Bool → List (List ℕ) → List ℕ → Type 0) → m.reads ≡ true → Includes notes → (p : Output) (refused : Bool) → Noted notes old new p (Ok refused) → IsNoted m files old new p (Ok refused)
  lines-noted notes is f p refused n = (n.0, run-so notes is f n.0 (Ok refused) n.1, n.2)

  pub lines-noted-stop : (notes : Bool → List (List ℕ) → List ℕ → Type 0) → m.reads ≡ true → Includes notes → (p : Output) (stop : Stop) → Noted notes old new p (Err stop) → IsNoted m files old new p (Err (Stopped stop))
  lines-noted-stop notes is f p stop n = (n.0, stopped-so n.0 stop (run-so notes is f n.0 (Err stop) n.1), n.2)
