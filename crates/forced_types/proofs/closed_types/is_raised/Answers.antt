use Rattle.std.proofs.Common.{ℕ, ◌≡◌, ◌<◌, true, arith}
use Rattle.type_hierarchy.specs.Table.{count_of, is_below}
use Rattle.fs_model.specs.Claims.{Has}
use Rattle.fs_closing.proofs.HasLemmas.{Has-at}
use Rattle.forced_types.proofs.TypeLemmas.{at_every}
use Rattle.forced_types.proofs.closed_types.is_raised.Goals as goal

pub is_raised_from-requires : goal.is_raised_from-requires
is_raised_from-requires c = c.requires _ (Has-at c.args.list.now c.loop-i.i 0 (omega (arith, c.loop-i-test.true)))

pub returns : goal.returns
returns c = λ _.
    at_every c.args.list.now (λ t. (u : ℕ) → u < count_of c.args.types.now → is_below c.args.types.now t u ≡ true → Has u c.args.list.now) 0
    (λ k h. c.loop-i.invariant k (omega (arith, c.loop-i-test.false)))
