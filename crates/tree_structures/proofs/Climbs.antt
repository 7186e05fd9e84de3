-- What lexical rules make of a structure, as mothers over one daughter.
use Rattle.std.proofs.Common.{ℕ, ◌≡◌, [], ◌∷◌, length, sym, ap, subst}
use Rattle.std.specs.Prelude.{option_map}
use Rattle.tree_model.specs.Structures.{Structure}
use Rattle.tree_model.specs.Mothers.{IsFullAt}
use Rattle.tree_model.specs.Signs.{Signs, Instance, rule_system}
use Rattle.tree_model.specs.Lexical.{IsUnderRule}
use Rattle.book_signs.specs.Trees.{HaveArities, HasArity}
use Rattle.rule_trees.specs.Mothers.{IsMother, HasDaughters}
use Rattle.tree_structures.specs.Formed.{IsLexicalRuleAt}

module _ (g : Signs) (rule : ℕ) where
  single : HaveArities g → (r : IsLexicalRuleAt g rule) → length r.instance.rule.places ≡ 1
  single arities r = subst (λ k. HasArity k (length r.instance.rule.places)) r.kind_is (arities rule r.instance r.at)

  pub has_one : HaveArities g → IsLexicalRuleAt g rule → HasDaughters g rule 1
  has_one arities r = record { instance = r.instance; at = r.at; arity = single arities r }

  pub under_mother : (d f : Structure) → IsUnderRule g rule d f → IsMother g rule (d ∷ []) f
  under_mother d f x = subst (λ q. IsFullAt (rule_system g) q (d ∷ []) f) (sym (ap (option_map (λ (i : Instance). i.rule)) x.at)) x.full

  pub mother_under : (d f : Structure) → HaveArities g → IsLexicalRuleAt g rule → IsMother g rule (d ∷ []) f → IsUnderRule g rule d f
  mother_under d f arities r m = record {
    instance = r.instance;
    at = r.at;
    kind = r.kind_is;
    single = single arities r;
    full = subst (λ q. IsFullAt (rule_system g) q (d ∷ []) f) (ap (option_map (λ (i : Instance). i.rule)) r.at) m;
  }
