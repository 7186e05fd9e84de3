-- What is known of an input when its leaves are found.
use Rattle.std.specs.Prelude.{◌≡◌, ◌<◌, ◌^◌, Option, List, length}
use Rattle.chart_core.specs.declared.Limits as declared
use Rattle.chart_model.specs.declared.counts.Counts.{Counts}
use Rattle.chart_model.specs.Sums.{counts_size}
use Rattle.tree_model.specs.Signs.{Signs, rule_system}
use Rattle.tree_model.specs.Lexical.{Words}
use Rattle.generate_model.specs.Bags.{preds_of, bound_of}
use Rattle.generate_model.specs.Contributions.{Input, asked_of}
use Rattle.generate_model.specs.Realizations.{IsTold, IsGenTooDeep}
use Rattle.generated_leaves.specs.Leaves.{WordLeaf, AreGenLeaves}
use Rattle.generated_leaves.specs.Placed.{own_by_place}

-- `own` has what the rules contribute, by number, and `bound` what covers stay within; no lexical tree is too deep, and these are the leaves
pub record IsKnown (g : Signs) (words : Words) (input : Input) (limits : declared.Limits) (own : List (Option Counts)) (bound : Counts) (xs : List WordLeaf) : Type 0 where
  pub even : length own ≡ length (rule_system g).rules
  pub told : IsTold g (asked_of g input) (own_by_place g own)
  pub bound_is : bound ≡ bound_of (preds_of input.meaning) limits.empty
  pub small : counts_size bound < 2 ^ 32
  pub flat : IsGenTooDeep g words (asked_of g input) limits.lexical limits.empty (own_by_place g own) → ⊥
  pub leaves : AreGenLeaves g words (asked_of g input) limits.lexical limits.empty (own_by_place g own) xs
