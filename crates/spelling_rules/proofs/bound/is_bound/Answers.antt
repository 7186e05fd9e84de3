use Rattle.std.proofs.Common.{◌≡◌, ◌∙◌, inl, inr, Bool, true, false, List, [], ◌∷◌, length, map, take, refl, sym, ap, subst}
use Rattle.lexicon.specs.Words.{Each}
use Rattle.spelling_rules.specs.Views.{sign_of}
use Rattle.spelling_rules.specs.Inner.Keeping.{IsFound}
use Rattle.spelling_rules.proofs.Lists.{Each-next, Each-all, Each-mapped, true_not_false}
use Rattle.spelling_rules.proofs.BoundLemmas.{found_each, each_found}
use Rattle.spelling_rules.proofs.bound.is_bound.Goals as goal

pub returns-then-not-is_found : goal.returns-then-not-is_found
returns-then-not-is_found c =
    let p = map sign_of c.args.group.now.pattern.items in (
      λ e. true_not_false false e refl,
      λ h. true_not_false c.is_found.result
          (c.is_found.ensures.1 (subst (λ l. IsFound (map sign_of l) (sign_of c.sign-item.result)) (sym c.deref.ensures.value)
          (Each-mapped (IsFound p) sign_of c.deref-sign-items.result.now c.loop-sign.sign-index c.sign-item.result
          (subst (λ l. Each (IsFound p) (map sign_of l)) (sym c.deref-sign-items.ensures.value) (found_each p (map sign_of c.args.group.now.with.items) h)) c.loop-sign-test.true c.sign-item.is)))
          c.if-not-is_found.true,
    )

pub loop-sign-preserved : goal.loop-sign-preserved
loop-sign-preserved c =
    let p = map sign_of c.args.group.now.pattern.items in
    Each-next (IsFound p) sign_of c.deref-sign-items.result.now c.loop-sign.sign-index c.sign-item.result c.loop-sign-test.true c.sign-item.is
    (subst (λ l. IsFound (map sign_of l) (sign_of c.sign-item.result)) c.deref.ensures.value (c.is_found.ensures.0 c.if-not-is_found.false)) c.loop-sign.invariant

pub returns : goal.returns
returns c =
    let p = map sign_of c.args.group.now.pattern.items in
    let all = subst (λ l. Each (IsFound p) (map sign_of l)) c.deref-sign-items.ensures.value
    (Each-all (IsFound p) sign_of c.deref-sign-items.result.now c.loop-sign.sign-index c.loop-sign-test.false c.loop-sign.invariant) in
    (λ _. each_found p (map sign_of c.args.group.now.with.items) all, λ _. refl)
