use Rattle.std.proofs.Common.{◌≡◌, false, ◌∙◌, ◌+◌, ap, sym, subst, arith, inl, inr}
use Rattle.type_hierarchy.specs.Bits.{has_bit}
use Rattle.type_hierarchy.proofs.SetLemmas.{differ}
use Rattle.type_hierarchy.proofs.SupertypeLemmas.{IsLowest, lowest_none, lowest_skip, lowest_passed, lowest_next, lowest_are, kept_each_in, not_strictly, strictly}
use Rattle.type_hierarchy.proofs.supertypes.lowest_above.Goals as goal
use Rattle.type_hierarchy.proofs.supertypes.lowest_above.Goals.{then-above-t+then-at_or_below+in_ok-lowest, else-above-t, else-above-t-via-then-above-t+else-at_or_below, else-above-t-via-else-above-t}

pub loop-above-init : goal.loop-above-init
loop-above-init c = record {
  within = c.next-above.ensures.high;
  lowest = subst (IsLowest c.args.types.now c.args.t c.in_ok-nearest.nearest.items c.next-above.result) (sym c.new-lowest.ensures.items)
      (lowest_passed c.args.types.now c.args.t c.in_ok-nearest.nearest.items 0 c.next-above.result _ c.next-above.ensures.low
      (λ u low high. subst (λ q. has_bit q u ≡ false) c.deref.ensures.value (c.next-above.ensures.none_before u low high))
      (lowest_none c.args.types.now c.args.t c.in_ok-nearest.nearest.items));
}

pub with_type-requires-clause-all_in : goal.with_type-requires-clause-all_in
with_type-requires-clause-all_in c = kept_each_in c.args.types.now c.args.t c.in_ok-nearest.nearest.items c.loop-above.above c.loop-above.lowest.items (omega (arith, c.loop-above-test.true, c.counts-completed.ensures.rising.1, c.counts-completed.ensures.all)) c.loop-above.invariant.lowest

pub loop-above-preserved : goal.loop-above-preserved
loop-above-preserved c = record {
  within = c.next-above-in-loop-above.ensures.high;
  lowest = lowest_passed c.args.types.now c.args.t c.in_ok-nearest.nearest.items (c.loop-above.above + 1) c.next-above-in-loop-above.result _ c.next-above-in-loop-above.ensures.low
      (λ u low high. subst (λ q. has_bit q u ≡ false) c.deref-in-loop-above.ensures.value (c.next-above-in-loop-above.ensures.none_before u low high))
      (elim c.if-above-t.branch [
        | then-above-t+then-at_or_below+in_ok-lowest w ↦
            subst (IsLowest c.args.types.now c.args.t c.in_ok-nearest.nearest.items (c.loop-above.above + 1)) (sym (ap (λ v. v.items) w.lowest-is))
            (lowest_next c.args.types.now c.args.t c.in_ok-nearest.nearest.items c.loop-above.above c.loop-above.lowest.items w.in_ok-lowest.lowest.items c.laws.ensures
            (strictly c.args.types.now c.args.t c.loop-above.above (λ e. w.if-above-t.true (sym e)) (sym w.at_or_below.ensures ∙ w.if-at_or_below.true))
            w.in_ok-lowest.ensures.kept w.in_ok-lowest.ensures.changed c.loop-above.invariant.lowest)
        | else-above-t w ↦
            subst (IsLowest c.args.types.now c.args.t c.in_ok-nearest.nearest.items (c.loop-above.above + 1)) (sym (ap (λ v. v.items) w.lowest-is))
            (lowest_skip c.args.types.now c.args.t c.in_ok-nearest.nearest.items c.loop-above.above c.loop-above.lowest.items
            (λ _ e. differ _ e (elim w.else-above-t.branch [
              | else-above-t-via-then-above-t+else-at_or_below w' ↦ not_strictly c.args.types.now c.args.t c.loop-above.above (inr (sym w'.at_or_below.ensures ∙ w'.if-at_or_below.false))
              | else-above-t-via-else-above-t w' ↦ not_strictly c.args.types.now c.args.t c.loop-above.above (inl (sym w'.if-above-t.false))
            ]))
            c.loop-above.invariant.lowest)
      ]);
}

pub returns : goal.returns
returns c =
    lowest_are c.args.types.now c.args.t c.in_ok-nearest.nearest.items c.loop-above.above c.loop-above.lowest.items c.laws.ensures (omega (arith, c.counts-completed.ensures.completed, c.loop-above-test.false, c.loop-above.invariant.within)) c.in_ok-nearest.ensures.covered c.loop-above.invariant.lowest
