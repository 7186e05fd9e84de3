-- What contracts see of the lines that follow the line of a fault.
use Rattle.std.specs.Prelude.{◌≡◌, ◌⊎◌, ◌++◌, List, [], ℕ, Bool, Option, true, string_bytes}
use Rattle.fault_details.specs.Further.{IsFurther}
use Rattle.grammar_files.specs.declared.fault.Why.{Why}
use Rattle.grammar_files.specs.declared.fault.LoadFault.{LoadFault}
use Rattle.grammar_files.specs.declared.fault.LoadFault.TheVariants.{NoMemory, Found}
use Rattle.grammar_files.specs.Walks.{Files, fault_at}
use Rattle.endings.specs.declared.Fault.{Fault}
use Rattle.command_files.specs.Told.{IsToldBy}
use Rattle.command_files.specs.Grammars.{AreDetails}

-- lines that show a fault of this cause, followed by what is told of it beyond them, or by nothing
abbrev pub IsMoreOf : Files → List ℕ → Option (List ℕ) → Why → (shown all : List ℕ) → Type 0
IsMoreOf files name settings why shown all = ((more : List ℕ) × IsFurther files name settings why more × (all ≡ shown ++ more)) ⊎ (all ≡ shown)

-- the lines that follow the line of this fault under the flag
abbrev pub AreDetailsOf : Files → List ℕ → Option (List ℕ) → LoadFault → List ℕ → Type 0
AreDetailsOf files name settings (Found file at why) details = AreDetails true files name settings (fault_at (string_bytes file) at why) details
AreDetailsOf files name settings NoMemory details = details ≡ []

-- this fault is told by its line and the lines that follow it, or memory was wanting
abbrev pub IsToldIn : Bool → Files → List ℕ → Option (List ℕ) → LoadFault → Fault → Type 0
IsToldIn verbose files name settings (Found file at why) end =
    IsToldBy (λ f details. (f ≡ fault_at (string_bytes file) at why) × AreDetails verbose files name settings f details) end
IsToldIn verbose files name settings NoMemory end = IsToldBy (λ f details. ⊥) end
