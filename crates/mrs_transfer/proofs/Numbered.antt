-- Runs over the rules of the program: one more of them is done, none is left, or there are too many applications.
use Rattle.std.proofs.Common.{ℕ, ◌≡◌, ◌<◌, ◌≤◌, ◌+◌, ◌*◌, ◌∙◌, Bool, List, length, get_or, sym, subst, ap, arith}
use Rattle.std.specs.Prelude.{map}
use Rattle.std.proofs.lemmas.List.{get_or-map, length-map}
use Rattle.mrs_model.specs.Meanings.{Meaning}
use Rattle.mrs_model.specs.declared.Mrs.{Mrs}
use Rattle.mrs_model.specs.Views.{meaning_of, predication_of}
use Rattle.transfer_model.specs.declared.Rule.{Rule as DeclaredRule}
use Rattle.transfer_model.specs.Rules.{Rule}
use Rattle.transfer_model.specs.Sites.{Site}
use Rattle.transfer_model.specs.Runs.{AppliesNowhere, HasSteps, budget, IsResult, HasNoResult}
use Rattle.transfer_model.specs.Views.{rule_of}
use Rattle.mrs_transfer.specs.Inner.Running.{Leads, GoesOver, Follows}
use Rattle.mrs_transfer.proofs.Running.{follows_more, follows_over, follows_all}

-- the budget by the elementary predications of the program
pub budget_of : (mrs : Mrs) (most : ℕ) → most ≡ 16 * (length mrs.eps.items + 1) → most ≡ budget (meaning_of mrs)
budget_of mrs most e =
    let n : length (map predication_of mrs.eps.items) ≡ length mrs.eps.items = length-map mrs.eps.items predication_of in
    e ∙ ap (λ (k : ℕ). 16 * (k + 1)) (sym n)

module _ (allows : ℕ → Site → Bool) (rs : List DeclaredRule) (trees : List Rule) (same : map rule_of rs ≡ trees) (mrs : Mrs) where
  module _ (n : ℕ) (r : DeclaredRule) (l : n < length rs) (is : r ≡ get_or rs n r) where
    within : n < length trees
    within = let size = length-map rs rule_of in omega (arith, size, ap length same, l)

    tree_is : rule_of r ≡ get_or trees n (rule_of r)
    tree_is = ap rule_of is ∙ (sym (get_or-map rule_of rs n r (rule_of r) l) ∙ ap (λ (ts : List Rule). get_or ts n (rule_of r)) same)

    pub follows_rule : (m next : Meaning) (before steps : ℕ) → Follows allows trees (meaning_of mrs) n m before → Leads allows n (rule_of r) m before next steps → AppliesNowhere allows n (rule_of r) next → Follows allows trees (meaning_of mrs) (n + 1) next steps
    follows_rule m next before steps f leads nowhere = follows_more allows trees (meaning_of mrs) n (rule_of r) within tree_is m next before steps f leads nowhere

    pub no_result : (m : Meaning) (before most : ℕ) → most ≡ 16 * (length mrs.eps.items + 1) → before ≤ most → Follows allows trees (meaning_of mrs) n m before → GoesOver allows n (rule_of r) m before most → HasNoResult allows trees (meaning_of mrs)
    no_result m before most e w f o = subst (λ (z : ℕ). HasSteps allows 0 trees (meaning_of mrs) (z + 1)) (budget_of mrs most e)
        (follows_over allows trees (meaning_of mrs) n (rule_of r) within tree_is m before most w f o)

  pub result : (n : ℕ) (end : Meaning) (steps most : ℕ) → length rs ≤ n → most ≡ 16 * (length mrs.eps.items + 1) → steps ≤ most → Follows allows trees (meaning_of mrs) n end steps → IsResult allows trees (meaning_of mrs) steps end
  result n end steps most l e w f = record {
    makes = follows_all allows trees (meaning_of mrs) n end steps (let size = length-map rs rule_of in omega (arith, size, ap length same, l)) f;
    within = subst (λ (z : ℕ). steps ≤ z) (budget_of mrs most e) w;
  }
