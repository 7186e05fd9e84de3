use Rattle.std.proofs.Common.{◌≡◌, ◌∙◌, inl, inr, Bool, true, false, List, [], ◌∷◌, length, map, take, refl, sym, ap, subst}
use Rattle.spelling_rules.specs.Trees.{IsBound}
use Rattle.spelling_rules.specs.Views.{group_of}
use Rattle.spelling_rules.proofs.Lists.{Each-next, Each-all, Each-mapped, true_not_false}
use Rattle.spelling_rules.proofs.bound.all_bound.Goals as goal

pub returns-then-not-is_bound : goal.returns-then-not-is_bound
returns-then-not-is_bound c = (
  λ e. true_not_false false e refl,
  λ h. true_not_false c.is_bound.result (c.is_bound.ensures.1 (Each-mapped IsBound group_of c.args.groups.now c.loop-group.group-index c.group-item.result h c.loop-group-test.true c.group-item.is)) c.if-not-is_bound.true,
)

pub loop-group-preserved : goal.loop-group-preserved
loop-group-preserved c =
    Each-next IsBound group_of c.args.groups.now c.loop-group.group-index c.group-item.result c.loop-group-test.true c.group-item.is (c.is_bound.ensures.0 c.if-not-is_bound.false) c.loop-group.invariant

pub returns : goal.returns
returns c = (λ _. Each-all IsBound group_of c.args.groups.now c.loop-group.group-index c.loop-group-test.false c.loop-group.invariant, λ _. refl)
