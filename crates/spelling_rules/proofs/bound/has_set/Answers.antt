use Rattle.std.proofs.Common.{◌≡◌, ◌∙◌, inl, inr, Bool, true, false, List, [], ◌∷◌, length, map, take, refl, sym, ap, subst}
use Rattle.lexicon.specs.Words.{Has}
use Rattle.spelling_rules.specs.Trees.{variable}
use Rattle.spelling_rules.specs.Views.{sign_of}
use Rattle.spelling_rules.proofs.Lists.{Has-at, Has-next, all_taken, true_not_false}
use Rattle.spelling_rules.proofs.bound.has_set.Goals as goal

pub returns-then-is_set : goal.returns-then-is_set
returns-then-is_set c =
    (λ _. Has-at sign_of c.args.signs.now c.loop-sign.sign-index c.sign-item.result (variable c.args.name c.args.members.now) c.loop-sign-test.true c.sign-item.is (c.is_set.ensures.0 c.if-is_set.true), λ _. refl)

pub loop-sign-preserved : goal.loop-sign-preserved
loop-sign-preserved c = λ h.
    elim (Has-next sign_of c.args.signs.now c.loop-sign.sign-index c.sign-item.result (variable c.args.name c.args.members.now) c.loop-sign-test.true c.sign-item.is h) [
      | inl k ↦ c.loop-sign.invariant k
      | inr e ↦ true_not_false c.is_set.result (c.is_set.ensures.1 (sym e)) c.if-is_set.false
    ]

pub returns : goal.returns
returns c = (
  λ e. true_not_false false e refl,
  λ h. absurd (c.loop-sign.invariant (subst (λ l. Has (variable c.args.name c.args.members.now) (map sign_of l)) (sym (all_taken c.args.signs.now c.loop-sign.sign-index c.loop-sign-test.false)) h)),
)
