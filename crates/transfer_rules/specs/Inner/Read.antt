-- The fault of a statement at a place, and what was read.
use Rattle.std.specs.Prelude.{ℕ, ◌≡◌, List, All, map}
use Rattle.std.proofs.Common.{String, Global}
use Rattle.std.specs.String.{string_bytes}
use Rattle.transfer_model.specs.declared.Rule.{Rule as DeclaredRule}
use Rattle.transfer_model.specs.Views.{rule_of, IsHeld}
use Rattle.transfer_rules.specs.declared.fault.Refusal.{Refusal}
use Rattle.transfer_rules.specs.declared.fault.Refusal.TheVariants.{Form, NoMemory}
use Rattle.transfer_rules.specs.declared.fault.RulesFault.{RulesFault}
use Rattle.transfer_rules.specs.declared.fault.RulesFault.TheVariants.{Form as RulesForm, NoMemory as NoRoom}

abbrev pub fault_of : ℕ → Refusal → RulesFault
fault_of at Form = RulesForm at
fault_of at NoMemory = NoRoom

-- the names of the rules that were read are those of the table, and each rule is whole
pub record AreRead (names : List (String Global)) (rules : List DeclaredRule) : Type 0 where
  pub named : map string_bytes names ≡ map (λ r. r.name) (map rule_of rules)
  pub held : All IsHeld rules
