-- What a command is to do with its files and its input.
use Rattle.std.specs.Prelude.{◌≡◌, ℕ, ◌^◌, ◌-◌, ◌&&◌, min, nat_lt, List, Option, None, Some, [], Bool, false}
use Rattle.std.specs.Str.{bytes_eq}
use Rattle.lkb_io.specs.Outside.{HasRisen}

-- what a shelf tells of its files
abbrev pub Files : Type 0
Files = Option (List ℕ → Option (List ℕ))

-- the line that tells a fault of files, the lines that follow it (none where none are asked for), and the name of the file at which the shelf
-- failed where that is the fault
pub record FileFault : Type 0 where
  pub text : List ℕ
  pub details : List ℕ
  pub failed : Option (List ℕ)

-- What a command is: all that the clauses of a run ask of it.
pub record Meaning : Type 1 where
  -- whether it asks the shelf for files
  pub opens : Bool
  -- whether it reads its input, line by line
  pub reads : Bool
  -- its files have no fault
  pub loadable : Files → Type 0
  -- the first fault of its files, where the shelf fails at these names
  pub first : Files → (List ℕ → Bool) → FileFault → Type 0
  -- the report over lines: the report lines, each with its end, and whether the status tells of a refusal
  pub report : Files → List (List ℕ) → List (List ℕ) → Bool → Type 0
  -- the same report where memory may have been wanting for some of its items: they are told to be so, and whether there is one
  pub with_gaps : Files → List (List ℕ) → List (List ℕ) → Bool → Type 0
  -- the notes on lines, as one text, which is told on the error stream; the flag says whether memory may have been wanting for some of the
  -- items, on which there is none
  pub notes : Files → Bool → List (List ℕ) → List ℕ → Type 0

-- what a command without items has for a report with gaps: there are none
abbrev pub gapless : (Files → List (List ℕ) → List (List ℕ) → Bool → Type 0) → Files → List (List ℕ) → List (List ℕ) → Bool → Type 0
gapless report files lines pieces wanting = (wanting ≡ false) × (refused : Bool) × report files lines pieces refused

-- what a command has for notes that tells none
abbrev pub no_notes : Files → Bool → List (List ℕ) → List ℕ → Type 0
no_notes files gaps lines text = text ≡ []

-- what the shelf tells of a run, before and after it
pub record Shelves : Type 0 where
  pub files : Files
  pub faults_old : ℕ
  pub faults_new : ℕ
  pub asked_new : Option (List ℕ)

abbrev pub shelves : {S : Type 0} (files : S → Files) (faults : S → ℕ) (asked : S → Option (List ℕ)) → S → S → Shelves
shelves files faults asked shelf_old shelf_new = record { files = files shelf_old; faults_old = faults shelf_old; faults_new = faults shelf_new; asked_new = asked shelf_new }

-- whether the shelf's count of faults rose, and this is the name that it was asked for when it failed
abbrev pub has_failed_at : Option (List ℕ) → Shelves → List ℕ → Bool
has_failed_at None h name = false
has_failed_at (Some asked) h name = nat_lt (min h.faults_old (2 ^ 64 - 2)) h.faults_new && bytes_eq asked name

abbrev pub has_failed : Shelves → List ℕ → Bool
has_failed h name = has_failed_at h.asked_new h name

-- The command's files have this first fault, a fault of the shelf only where it failed when it was asked for that file.
abbrev pub Fails : Meaning → Shelves → FileFault → Type 0
Fails m h fault = m.first h.files (has_failed h) fault × ((file : List ℕ) → fault.failed ≡ Some file → HasRisen h.faults_old h.faults_new × (h.asked_new ≡ Some file))

-- What each command shows of its meaning: what has a report has no fault, and told files have one first fault, or none and one report. The line
-- of the fault is one; the lines that follow it may be fewer where memory is wanting for them.
pub record Lawful (m : Meaning) : Type 0 where
  pub loads : (files : Files) (lines pieces : List (List ℕ)) (refused : Bool) → m.report files lines pieces refused → m.loadable files
  pub gaps_load : (files : Files) (lines pieces : List (List ℕ)) (wanting : Bool) → m.with_gaps files lines pieces wanting → m.loadable files
  -- a report with gaps that has none is the report
  pub no_gap : (files : Files) (lines pieces : List (List ℕ)) → m.with_gaps files lines pieces false → (refused : Bool) × m.report files lines pieces refused
  pub one_first : (files : List ℕ → Option (List ℕ)) (f g : FileFault) → m.first (Some files) (λ name. false) f → m.first (Some files) (λ name. false) g → f.text ≡ g.text
  pub not_both : (files : List ℕ → Option (List ℕ)) (f : FileFault) → m.loadable (Some files) → m.first (Some files) (λ name. false) f → ⊥
  -- where the files are told, the report and the refusal depend on the files and the lines alone
  pub one_report : (files : List ℕ → Option (List ℕ)) (lines pieces others : List (List ℕ)) (refused may : Bool) → m.report (Some files) lines pieces refused → m.report (Some files) lines others may → (pieces ≡ others) × (refused ≡ may)
  -- and so do the notes
  pub one_notes : (files : List ℕ → Option (List ℕ)) (lines : List (List ℕ)) (text other : List ℕ) → m.notes (Some files) false lines text → m.notes (Some files) false lines other → text ≡ other
  pub calm : (h : Shelves) (f : FileFault) → Fails m h f → (HasRisen h.faults_old h.faults_new → ⊥) → m.first h.files (λ name. false) f
