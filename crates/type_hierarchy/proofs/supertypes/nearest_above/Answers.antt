use Rattle.std.proofs.Common.{◌≡◌, ◌-◌, ◌/◌, true, refl, subst, arith}
use Rattle.type_hierarchy.specs.Bits.{has_bit, IsRow}
use Rattle.type_hierarchy.proofs.NearestLemmas.{reaching_starts, reaching_passed, reaching_next, reaching_ends}
use Rattle.type_hierarchy.proofs.supertypes.nearest_above.Goals as goal

pub loop-x-init : goal.loop-x-init
loop-x-init c = record {
  within = omega (arith, c.counts-x.ensures.completed);
  nearest_row = subst (λ n. IsRow n c.in_ok-nearest.nearest.items) c.counts-x.ensures.completed c.in_ok-nearest.ensures.row;
  passed_row = subst (λ n. IsRow n c.in_ok-passed.passed.items) c.counts-x.ensures.completed c.in_ok-passed.ensures.row;
  reaching = reaching_starts c.args.types.now c.args.t c.in_ok-nearest.nearest.items c.in_ok-passed.passed.items c.counts-x.result.completed c.counts-x.ensures.completed c.in_ok-passed.ensures.none;
}

pub loop-x-preserved-then-is_word_subset : goal.loop-x-preserved-then-is_word_subset
loop-x-preserved-then-is_word_subset c = record {
  within = omega (arith, c.loop-x.invariant.within);
  nearest_row = c.loop-x.invariant.nearest_row;
  passed_row = c.loop-x.invariant.passed_row;
  reaching = reaching_passed c.args.types.now c.args.t c.may_be_above-candidates.result.now c.loop-x.nearest.items c.loop-x.passed.items c.loop-x.x ((c.loop-x.x - 1) / 64) (omega (arith, c.loop-x-test.true)) refl
      c.may_be_above-candidates.ensures.has (λ y e m. subst (λ q. has_bit q y ≡ true) c.deref.ensures.value (c.is_word_subset.ensures c.if-is_word_subset.true y e m)) c.loop-x.invariant.reaching;
}

pub loop-x-preserved : goal.loop-x-preserved
loop-x-preserved c = record {
  within = omega (arith, c.loop-x.invariant.within);
  nearest_row = c.take_nearest.ensures.nearest_row;
  passed_row = c.take_nearest.ensures.passed_row;
  reaching = reaching_next c.args.types.now c.args.t c.loop-x.nearest.items c.take_nearest.new.nearest.items c.loop-x.passed.items c.take_nearest.new.passed.items c.loop-x.x (c.loop-x.x - 1) c.laws.ensures
      (omega (arith, c.loop-x-test.true)) (omega (arith, c.loop-x-test.true, c.loop-x.invariant.within)) c.take_nearest.ensures.taken c.loop-x.invariant.reaching;
}

pub returns-clause-covered : goal.returns-clause-covered
returns-clause-covered c = reaching_ends c.args.types.now c.args.t c.loop-x.nearest.items c.loop-x.passed.items c.loop-x.x (omega (arith, c.loop-x-test.false)) c.loop-x.invariant.reaching
