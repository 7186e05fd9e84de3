-- What a fault of files is to a run.
use Rattle.std.specs.Prelude.{◌≡◌, ◌++◌, ℕ, List, Option, None, Some, Bool, false, string_bytes}
use Rattle.lkb_io.specs.Outside.{HasRisen}
use Rattle.grammar_settings.specs.Forms.{Name}
use Rattle.grammar_files.specs.declared.fault.Why.{Why}
use Rattle.grammar_files.specs.declared.fault.Why.TheVariants.{Shelf}
use Rattle.grammar_files.specs.declared.fault.LoadFault.{LoadFault}
use Rattle.grammar_files.specs.declared.fault.LoadFault.TheVariants.{Found}
use Rattle.grammar_files.specs.Faults.{FoundFault}
use Rattle.grammar_files.specs.Walks.{fault_at}
use Rattle.command_files.specs.FaultTexts.{found_text}
use Rattle.endings.specs.Meanings.{FileFault, Shelves}
use Rattle.endings.specs.declared.Fault.{Fault}
use Rattle.endings.specs.declared.Fault.TheVariants.{Files as FilesFault, Stopped}
use Rattle.endings.specs.declared.Stop.TheVariants.{NoMemory}

-- where the shelf fails at no name
abbrev pub never : Name → Bool
never name = false

-- the file at which the shelf failed, where that is the cause
abbrev pub failed_file : Why → Name → Option Name
failed_file Shelf file = Some file
failed_file why file = None

-- the line that tells a fault of files, and lines that follow it
abbrev pub told_of : FoundFault → List ℕ → FileFault
told_of f details = record { text = found_text f; details = details; failed = failed_file f.why f.file }

-- a fault of the shelf only where it failed when it was asked for that file
abbrev pub IsOfShelf : Shelves → FileFault → Type 0
IsOfShelf h fault = (file : Name) → fault.failed ≡ Some file → HasRisen h.faults_old h.faults_new × (h.asked_new ≡ Some file)

-- A fault of files that, with the lines that follow its own, is as P says is told by these lines, or memory was wanting.
abbrev pub IsToldBy : (FoundFault → List ℕ → Type 0) → Fault → Type 0
IsToldBy P (FilesFault text) = (f : FoundFault) × (details : List ℕ) × P f details × (text.items ≡ found_text f ++ details)
IsToldBy P (Stopped NoMemory) = Unit {0}
IsToldBy P other = ⊥

-- The line that tells this fault, or want of memory, which may come in its place.
abbrev pub IsToldAs : LoadFault → Fault → Type 0
IsToldAs (Found file at why) (FilesFault text) = text.items ≡ found_text (fault_at (string_bytes file) at why)
IsToldAs fault (Stopped NoMemory) = Unit {0}
IsToldAs fault other = ⊥
