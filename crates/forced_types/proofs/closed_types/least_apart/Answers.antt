use Rattle.std.proofs.Common.{ℕ, ◌≡◌, None, arith, subst, ap}
use Rattle.type_hierarchy.specs.Table.{count_of, meet_of}
use Rattle.type_hierarchy.specs.Laws.{HasTypeLaws}
use Rattle.fs_model.specs.Claims.{Has}
use Rattle.forced_types.proofs.TypeLemmas.{one_more, not_less, one_apart}
use Rattle.forced_types.proofs.closed_types.least_apart.Goals as goal

pub returns-then-list-eq1-clause-none : goal.returns-then-list-eq1-clause-none
returns-then-list-eq1-clause-none c =
    one_apart c.args.given.system.now.types (subst HasTypeLaws c.types.ensures c.laws.ensures) c.args.list.now c.if-list-eq1.true

pub returns-in-Some-clause-some : goal.returns-in-Some-clause-some
returns-in-Some-clause-some c = record {
  has = c.in-Some.ensures.has;
  second = c.in-Some.ensures.some;
  least = λ t u h k m. not_less t c.loop-first.first (λ less. c.loop-first.invariant t less h u k m);
}

pub loop-first-preserved : goal.loop-first-preserved
loop-first-preserved c =
    one_more (λ t. Has t c.args.list.now → (u : ℕ) → Has u c.args.list.now → meet_of c.args.given.system.now.types t u ≡ None → ⊥) c.loop-first.first c.loop-first.invariant
    c.in_default.ensures.none

pub returns-clause-none : goal.returns-clause-none
returns-clause-none c = λ t h u k m. c.loop-first.invariant t (let i = c.requires t h in omega (arith, c.loop-first-test.false, c.counts-first-end.ensures.all, ap count_of c.types-2.ensures)) h u k m
