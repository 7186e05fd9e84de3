use Rattle.std.proofs.Common.{◌≡◌, inl, inr, subst, arith}
use Rattle.std.proofs.lemmas.Bool.{cases_lt}
use Rattle.glb_completion.specs.Inner.Growing.{IsSpread}
use Rattle.glb_completion.proofs.GrowingLemmas.{met_on, still_in, family_is}
use Rattle.glb_completion.proofs.completion.closed.Goals as goal

pub loop-at-init : goal.loop-at-init
loop-at-init c = record { growing = c.in_ok-family.ensures.growing; within = omega arith; spread = λ k h. absurd (omega arith) }

pub loop-at-preserved : goal.loop-at-preserved
loop-at-preserved c = record {
  growing = c.in_ok-spread.ensures.growing;
  within = let l = still_in _ _ c.loop-at.at c.in_ok-spread.ensures.more (omega (arith, c.loop-at-test.true, c.len.ensures.len)) in omega (arith, l);
  spread = λ k h. elim (cases_lt k c.loop-at.at) [
    | inl l ↦ λ t in_t. met_on c.args.h.now _ c.loop-at.family.sets.keys k t c.in_ok-spread.ensures.more (omega (arith, l, c.loop-at-test.true, c.len.ensures.len)) (c.loop-at.invariant.spread k l t in_t)
    | inr l ↦
        let same : c.loop-at.at ≡ k = omega arith in
        subst (IsSpread c.args.h.now c.spread.new.family.sets.keys) same c.in_ok-spread.ensures.spread
  ];
}

pub returns : goal.returns
returns c = record {
  growing = c.loop-at.invariant.growing;
  family = family_is c.args.h.now c.in_ok-family.ensures.laws c.loop-at.family.sets.keys c.loop-at.family.above.items c.loop-at.invariant.growing
      (λ k h. c.loop-at.invariant.spread k (omega (arith, h, c.loop-at-test.false, c.len.ensures.len)));
  fault = tt;
}
