use Rattle.std.proofs.Common.{◌≡◌, None, arith, ap}
use Rattle.type_hierarchy.specs.Table.{count_of, meet_of}
use Rattle.fs_model.specs.Claims.{Has}
use Rattle.forced_types.proofs.TypeLemmas.{one_more, not_less}
use Rattle.forced_types.proofs.closed_types.apart_from.Goals as goal

pub returns-then-is_apart-clause-some : goal.returns-then-is_apart-clause-some
returns-then-is_apart-clause-some c = record {
  has = c.is_apart.ensures.has c.if-is_apart.true;
  apart = c.is_apart.ensures.apart c.if-is_apart.true;
  least = λ v h m. not_less v c.loop-other.other (λ less. c.loop-other.invariant v less h m);
}

pub loop-other-preserved : goal.loop-other-preserved
loop-other-preserved c =
    one_more (λ u. Has u c.args.list.now → meet_of c.args.given.system.now.types c.args.ty u ≡ None → ⊥) c.loop-other.other c.loop-other.invariant
    (c.is_apart.ensures.not c.if-is_apart.false)

pub returns-clause-none : goal.returns-clause-none
returns-clause-none c = λ u h m. c.loop-other.invariant u (let k = c.requires.list u h in omega (arith, c.loop-other-test.false, c.counts-other-end.ensures.all, ap count_of c.types.ensures)) h m
