-- When told files can be read again.
use Rattle.std.specs.Prelude.{ℕ, ◌≡◌, List, Option, Some, Ok, Err}
use Rattle.lkb_io.specs.Outside.{HasRisen}
use Rattle.grammar_settings.specs.Forms.{Name}
use Rattle.grammar_files.specs.declared.fault.Why.{Why}
use Rattle.grammar_files.specs.Faults.{FoundFault}
use Rattle.grammar_files.specs.Walks.{Files}
use Rattle.grammar_files.specs.Reads.{ReadTree, ReadsTo}
use Rattle.grammar_load.specs.Loads.{Makes}
use Rattle.fault_details.specs.Further.{never}

-- Told files say again what they said, but where the shelf counted a fault: P, which says that of them, can't hold.
abbrev pub CannotLack : Files → (faults_old faults_new : ℕ) → ((Name → Option (List ℕ)) → Type 0) → Type 0
CannotLack files old new P = (told : Name → Option (List ℕ)) → files ≡ Some told → (HasRisen old new → ⊥) → P told → ⊥

-- The files can be read, and what they say has a first fault of this cause, of types, of expansion or of shape.
pub record FaultIsMade (told : Name → Option (List ℕ)) (name : Name) (settings : Option Name) (why : Why) : Type 0 where
  pub read : ReadTree
  pub reads : ReadsTo (Some told) never name settings (Ok read)
  pub fault : FoundFault
  pub why_is : fault.why ≡ why
  pub made : Makes read (Err fault)
