use Rattle.std.proofs.Common.{◌≡◌, ◌∙◌, inl, inr, Bool, true, false, List, [], ◌∷◌, length, map, take, refl, sym, ap, subst}
use Rattle.lexicon.specs.Words.{Each}
use Rattle.spelling_rules.specs.Trees.{RuleTree, IsBound}
use Rattle.spelling_rules.specs.Views.{group_of, rule_of}
use Rattle.spelling_rules.proofs.Lists.{Each-next, Each-all, Each-mapped, true_not_false}
use Rattle.spelling_rules.proofs.bound.are_bound.Goals as goal

abbrev AreSo : RuleTree → Type 0
AreSo r = Each IsBound r.groups

pub returns-then-not-all_bound : goal.returns-then-not-all_bound
returns-then-not-all_bound c = (
  λ e. true_not_false false e refl,
  λ h. true_not_false c.all_bound.result
      (c.all_bound.ensures.1 (subst (λ l. Each IsBound (map group_of l)) (sym c.deref.ensures.value) (Each-mapped AreSo rule_of c.args.rules.now c.loop-rule.rule-index c.rule-item.result h c.loop-rule-test.true c.rule-item.is)))
      c.if-not-all_bound.true,
)

pub loop-rule-preserved : goal.loop-rule-preserved
loop-rule-preserved c =
    Each-next AreSo rule_of c.args.rules.now c.loop-rule.rule-index c.rule-item.result c.loop-rule-test.true c.rule-item.is
    (subst (λ l. Each IsBound (map group_of l)) c.deref.ensures.value (c.all_bound.ensures.0 c.if-not-all_bound.false)) c.loop-rule.invariant

pub returns : goal.returns
returns c = (λ _. Each-all AreSo rule_of c.args.rules.now c.loop-rule.rule-index c.loop-rule-test.false c.loop-rule.invariant, λ _. refl)
