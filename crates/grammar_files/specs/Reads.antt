-- What the files of a grammar say: settings and statements, and then the text of the irregular forms.
use Rattle.std.specs.Prelude.{ℕ, ◌≡◌, Bool, true, List, [], Option, None, Some, Result, Ok, Err}
use Rattle.grammar_settings.specs.Forms.{Name}
use Rattle.grammar_files.specs.declared.fault.Why.TheVariants.{Shelf, TooLong}
use Rattle.grammar_files.specs.Faults.{FoundFault}
use Rattle.grammar_files.specs.Walks.{Files, IsText, IsTooLong, fault_at, WalkedTree, WalksTo}

-- The text of the irregular forms: empty where the settings name no file. `fails` tells at which names the shelf fails.
pub data AreIrregular (files : Files) (fails : Name → Bool) : Option Name → Result (List ℕ) FoundFault → Type 0 where
  no_file : AreIrregular files fails None (Ok [])
  fails_there : (name : Name) → fails name ≡ true → AreIrregular files fails (Some name) (Err (fault_at name 0 Shelf))
  too_long : (name : Name) → IsTooLong files name → AreIrregular files fails (Some name) (Err (fault_at name 0 TooLong))
  text : (name : Name) (bytes : List ℕ) → IsText files name bytes → AreIrregular files fails (Some name) (Ok bytes)

pub record ReadTree : Type 0 where
  pub walked : WalkedTree
  pub irregular : List ℕ

-- The irregular forms are read after all statements.
pub data ReadsTo (files : Files) (fails : Name → Bool) (top : Name) (settings : Option Name) : Result ReadTree FoundFault → Type 0 where
  unwalked : (f : FoundFault) → WalksTo files fails top settings (Err f) → ReadsTo files fails top settings (Err f)
  without_forms : (w : WalkedTree) (f : FoundFault) → WalksTo files fails top settings (Ok w) → AreIrregular files fails w.settings.irregular_file (Err f) → ReadsTo files fails top settings (Err f)
  reads : (w : WalkedTree) (bytes : List ℕ) → WalksTo files fails top settings (Ok w) → AreIrregular files fails w.settings.irregular_file (Ok bytes)
      → ReadsTo files fails top settings (Ok (record { walked = w; irregular = bytes }))
