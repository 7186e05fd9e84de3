use Rattle.std.proofs.Common.{◌≡◌, arith, subst}
use Rattle.fs_model.specs.Claims.{Has}
use Rattle.fs_closing.proofs.HasLemmas.{Has-at}
use Rattle.forced_types.proofs.TypeLemmas.{at_every}
use Rattle.forced_types.proofs.closed_types.has.Goals as goal

pub returns-then-list-i-clause-has : goal.returns-then-list-i-clause-has
returns-then-list-i-clause-has c = λ _. subst (λ x. Has x c.args.list.now) c.if-list-i.true (Has-at c.args.list.now c.loop-i.i 0 (omega (arith, c.loop-i-test.true)))

pub returns-clause-lacks : goal.returns-clause-lacks
returns-clause-lacks c = λ _ m. at_every c.args.list.now (λ x. x ≡ c.args.ty → ⊥) 0 (λ k h. c.loop-i.invariant k (omega (arith, c.loop-i-test.false))) c.args.ty m refl'
  where
    refl' : c.args.ty ≡ c.args.ty
    refl' = cc
