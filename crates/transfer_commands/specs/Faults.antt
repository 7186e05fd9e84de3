-- The first fault of the files of `transfer`, the line that tells it, and those that follow it.
use Rattle.std.specs.Prelude.{ℕ, Bool, List, Option, None, Ok, Err, codes}
use Rattle.tdl_reader.specs.Trees.{StatementTree}
use Rattle.grammar_settings.specs.Forms.{Name}
use Rattle.grammar_settings.specs.Settled.{SettingsTree}
use Rattle.grammar_files.specs.Faults.{FoundFault}
use Rattle.grammar_files.specs.Walks.{Files, Says, IsSettled}
use Rattle.command_files.specs.Causes.{form_cause}
use Rattle.command_files.specs.FaultTexts.{word_text}
use Rattle.endings.specs.Meanings.{FileFault}
use Rattle.command_files.specs.Shown.{AreShown, AreLines, IsPlaceShown}
use Rattle.command_files.specs.Told.{told_of}
use Rattle.transfer_rules.specs.Forms.{IsFirstOutside}

-- `lkb: FILE:AT: Form`
abbrev pub form_text : Name → ℕ → List ℕ
form_text name at = word_text name at (codes "Form")

abbrev pub told_of_form : Name → ℕ → (details : List ℕ) → FileFault
told_of_form name at details = record { text = form_text name at; details = details; failed = None }

-- the lines that show a statement outside the form, which stands here in the file of this name
abbrev pub IsFormShown : Files → Name → ℕ → List ℕ → Type 0
IsFormShown files name at = IsPlaceShown files name (λ text. at) form_cause

-- The settings or the statements of the file aren't read: their first fault, where the shelf fails at these names. Settings are read first.
pub data IsUnread (name : Name) (settings : Option Name) (files : Files) (fails : Name → Bool) : FoundFault → Type 0 where
  unsettled : (f : FoundFault) → IsSettled files fails settings (Err f) → IsUnread name settings files fails f
  unsaid : (t : SettingsTree) (f : FoundFault) → IsSettled files fails settings (Ok t) → Says files fails name (Err f) → IsUnread name settings files fails f

-- The first fault of the files: one of these, or else the first statement that is outside the form of rules. `verbose` says whether more is told
-- of it.
pub data IsFirstFault (name : Name) (settings : Option Name) (verbose : Bool) (files : Files) (fails : Name → Bool) : FileFault → Type 0 where
  unread : (f : FoundFault) (details : List ℕ) → IsUnread name settings files fails f → AreShown verbose files f details
      → IsFirstFault name settings verbose files fails (told_of f details)
  out_of_form : (t : SettingsTree) (ss : List StatementTree) (at : ℕ) (details : List ℕ) → IsSettled files fails settings (Ok t) → Says files fails name (Ok ss)
      → IsFirstOutside ss at → AreLines verbose (IsFormShown files name at) details → IsFirstFault name settings verbose files fails (told_of_form name at details)
