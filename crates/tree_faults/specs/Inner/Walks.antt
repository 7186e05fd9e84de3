-- A walk over the lexical trees of a tree with a stack of its own; only private clauses cite it.
use Rattle.std.specs.Prelude.{ℕ, ◌≡◌, ◌<◌, ◌≤◌, All, List, Option, length, map, take, replicate}
use Rattle.derivation.specs.Trees.{Derivation, lexical}
use Rattle.derivation.specs.Views.{derivation_of, in_order}
use Rattle.tree_model.specs.Lexical.{Word, Words}
use Rattle.tree_model.specs.Trees.{LeavesAre, AllLeavesAre}
use Rattle.tree_faults.specs.Spelled.{IsSpelled, AreSpelled, FailsWithin}
use Rattle.tree_faults.specs.declared.opened.Opened.{Opened}
use Rattle.tree_faults.specs.declared.endings.LeafFault.{LeafFault}
use Rattle.tree_faults.specs.declared.misspelled.Next.{Next}
use Rattle.tree_faults.specs.declared.misspelled.Next.TheVariants.{Down, Spelled, Fault, Over}
use Rattle.tree_faults.specs.declared.misspelled.Walk.{Walk}
use Rattle.tree_faults.specs.declared.misspelled.Walk.TheVariants.{On, Fails, Done}
use Rattle.tree_faults.specs.Inner.Chains.{Open, tree_of, IsNext, IsBelow, left_of}

abbrev pub daughters_in : Opened → List Derivation
daughters_in o = map derivation_of o.daughters.now

abbrev pub open_of : Opened → Open
open_of o = record { rule = o.rule; daughters = daughters_in o; passed = o.passed }

-- the lexical trees below the daughters that were passed spell their words
abbrev pub HasPassed : Words → Opened → Type 0
HasPassed words o = AllLeavesAre (IsSpelled words) (in_order (take o.passed (daughters_in o)))

-- the next daughter is a lexical tree that fails there
pub record FailsNext (words : Words) (o : Opened) (fault : LeafFault) : Type 0 where
  pub entry : ℕ
  pub rules : List ℕ
  pub said : List Word
  pub nodes : Option (ℕ × ℕ)
  pub next : IsNext open_of o (lexical entry rules said nodes)
  pub fails : FailsWithin words entry rules said (replicate fault.depth 1) fault.instance

-- what comes next in an open phrase
abbrev pub Follows : Words → Opened → Next → Type 0
Follows words o (Down new) = IsNext open_of o (tree_of open_of new) × (new.passed ≡ 0)
Follows words o Spelled = (d : Derivation) × IsNext open_of o d × LeavesAre (IsSpelled words) d
Follows words o (Fault fault) = FailsNext words o fault
Follows words o Over = length o.daughters.now ≤ o.passed

-- a walk over the whole tree: phrases wait, and one is looked at
pub record IsWalking (words : Words) (whole : Derivation) (waiting : List Opened) (here : Opened) : Type 0 where
  pub below : IsBelow open_of whole waiting here
  pub waits : All (HasPassed words) waiting
  pub passed : HasPassed words here

-- it goes on with less left than so much, or ends at a lexical tree that fails, or all spell their words
abbrev pub WalksOn : Words → Derivation → List Opened → ℕ → Walk → Type 0
WalksOn words whole waiting left (On here) = IsWalking words whole waiting here × (left_of open_of waiting here < left)
WalksOn words whole waiting left (Fails last fault) = IsWalking words whole waiting last × FailsNext words last fault
WalksOn words whole waiting left Done = AreSpelled words whole
