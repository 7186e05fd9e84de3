-- Rules in an order in which rows of them are found fast.
use Rattle.std.specs.Prelude.{ℕ, ◌≡◌, ◌<◌, ◌≤◌, Bool, true, false, List, length, slice_index_or}
use Rattle.type_hierarchy.specs.Table.{TypeTable, is_below}
use Rattle.fs_model.specs.Claims.{Has}
use Rattle.fs_closing.specs.Rules.{Rule, no_rule, rules_with_facts, HaveSame}

-- marks of places in a list, which has places of rules with facts alone
pub record AreMarks (rules : List Rule) (list : List ℕ) (marks : List Bool) : Type 0 where
  pub each : length marks ≡ length rules
  pub only : (j : ℕ) → Has j list → Has j (rules_with_facts rules)
  pub marked : (j : ℕ) → slice_index_or marks j false ≡ true → Has j list

-- the rules behind place i and before an end are of types at or below that of the rule at i
pub record IsEnd (types : TypeTable) (rules : List Rule) (order : List ℕ) (i end : ℕ) : Type 0 where
  pub behind : i < end
  pub within : end ≤ length order
  pub below : (k : ℕ) → i < k → k < end →
      is_below types (slice_index_or rules (slice_index_or order k 0) no_rule).ty (slice_index_or rules (slice_index_or order i 0) no_rule).ty ≡ true

-- each of the first places has its end
pub record AreEnds (types : TypeTable) (rules : List Rule) (order : List ℕ) (count : ℕ) (ends : List ℕ) : Type 0 where
  pub each : length ends ≡ count
  pub ends_at : (i : ℕ) → i < count → IsEnd types rules order i (slice_index_or ends i 0)

-- the rules with facts, and their ends
pub record IsOutline (types : TypeTable) (rules : List Rule) (order ends : List ℕ) : Type 0 where
  pub same : HaveSame order (rules_with_facts rules)
  pub each_end : AreEnds types rules order (length order) ends
