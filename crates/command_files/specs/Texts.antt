-- Why a run has no text of a file that it is to read.
use Rattle.std.specs.Prelude.{◌≡◌, Bool, true}
use Rattle.grammar_settings.specs.Forms.{Name}
use Rattle.grammar_files.specs.declared.fault.Why.TheVariants.{Shelf, TooLong}
use Rattle.grammar_files.specs.Faults.{FoundFault}
use Rattle.grammar_files.specs.Walks.{Files, IsTooLong, fault_at}
use Rattle.endings.specs.Meanings.{Shelves, has_failed}
use Rattle.endings.specs.declared.Fault.{Fault}
use Rattle.command_files.specs.Told.{told_of, IsOfShelf, IsToldBy}
use Rattle.command_files.specs.Shown.{AreShown}

-- The fault of the file of this name, where the shelf fails at these names: it fails there, or the file is too long.
pub data IsTextFault (files : Files) (fails : Name → Bool) (name : Name) : FoundFault → Type 0 where
  fails_there : fails name ≡ true → IsTextFault files fails name (fault_at name 0 Shelf)
  too_long : IsTooLong files name → IsTextFault files fails name (fault_at name 0 TooLong)

-- Why a run has no text of the file of this name: its fault is told, a fault of the shelf only where it failed in the run when it was
-- asked for this file, and under the flag the lines that show it; or memory was wanting.
abbrev pub LacksText : Shelves → Name → (verbose : Bool) → Fault → Type 0
LacksText h name verbose fault = IsToldBy (λ f details. IsTextFault h.files (has_failed h) name f × IsOfShelf h (told_of f details) × AreShown verbose h.files f details) fault
