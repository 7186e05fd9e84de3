-- The grammar of some files as commands take it, and why there is none.
use Rattle.std.specs.Prelude.{◌≡◌, ◌++◌, List, ℕ, Option, Bool, true, Ok, Err}
use Rattle.grammar_files.specs.Faults.{FoundFault}
use Rattle.grammar_load.specs.Loaded.{GrammarTree}
use Rattle.grammar_load.specs.Loads.{Loads}
use Rattle.fault_details.specs.Further.{IsFurther}
use Rattle.endings.specs.Meanings.{FileFault, Files, Shelves, has_failed}
use Rattle.endings.specs.declared.Fault.{Fault}
use Rattle.endings.specs.declared.Fault.TheVariants.{Files as FilesFault, Stopped}
use Rattle.endings.specs.declared.Stop.TheVariants.{NoMemory}
pub use Rattle.command_files.specs.Told.{never, told_of, IsOfShelf}
use Rattle.command_files.specs.Shown.{IsShown, AreShown}

-- the grammar of this name, under the settings of the file of that name
abbrev pub HasGrammar : Files → List ℕ → Option (List ℕ) → GrammarTree → Type 0
HasGrammar files name settings g = Loads files never name settings (Ok g)

-- The lines that follow the line of a fault: none without the flag; under it those that show its place, and then what is told of it beyond
-- that. Where memory was wanting, or a file wasn't read again, the last ones are left out, or all.
pub data AreDetails (verbose : Bool) (files : Files) (name : List ℕ) (settings : Option (List ℕ)) (f : FoundFault) : List ℕ → Type 0 where
  place : (shown : List ℕ) → AreShown verbose files f shown → AreDetails verbose files name settings f shown
  whole : (shown more : List ℕ) → verbose ≡ true → IsShown files f shown → IsFurther files name settings f.why more → AreDetails verbose files name settings f (shown ++ more)

-- The first fault of a grammar's files, where the shelf fails at these names, with the lines that follow its own.
abbrev pub IsFirstFault : List ℕ → Option (List ℕ) → (verbose : Bool) → Files → (List ℕ → Bool) → FileFault → Type 0
IsFirstFault name settings verbose files fails fault =
    (f : FoundFault) × (details : List ℕ) × Loads files fails name settings (Err f) × AreDetails verbose files name settings f details × (fault ≡ told_of f details)

-- Why a run has no grammar: the first fault of its files is told, or memory was wanting.
abbrev pub LacksGrammar : Shelves → List ℕ → Option (List ℕ) → (verbose : Bool) → Fault → Type 0
LacksGrammar h name settings verbose (FilesFault text) =
    (fault : FileFault) × IsFirstFault name settings verbose h.files (has_failed h) fault × IsOfShelf h fault × (text.items ≡ fault.text ++ fault.details)
LacksGrammar h name settings verbose (Stopped NoMemory) = Unit {0}
LacksGrammar h name settings verbose fault = ⊥
