use Rattle.std.proofs.Common.{◌≡◌, ◌+◌, ◌==◌, false, get_or, take, drop, sym, subst, arith}
use Rattle.fault_places.specs.Places.{last_part}
use Rattle.fault_places.proofs.LineLemmas.{part-at_end, part-at_other}
use Rattle.fault_places.proofs.last_begin.Goals as goal
use Rattle.fault_places.proofs.last_begin.Goals.{then-text-i-eq10, else-text-i-eq10}

pub loop-i-preserved : goal.loop-i-preserved
loop-i-preserved c =
    let text = c.args.text.now in
    let i = c.loop-i.i in
    elim c.if-text-i-eq10.branch [
      | then-text-i-eq10 w ↦ record {
        within = omega arith;
        value = subst (λ k. drop k (take (i + 1) text) ≡ last_part (take (i + 1) text)) (sym w.begin-is) (part-at_end text i c.loop-i-test.true w.if-text-i-eq10.true);
      }
      | else-text-i-eq10 w ↦
          let other : (get_or text i 0 == 10) ≡ false = grind (arith, w.if-text-i-eq10.false) in
          record {
            within = omega (arith, c.loop-i.invariant.within);
            value =
                subst (λ k. drop k (take (i + 1) text) ≡ last_part (take (i + 1) text)) (sym w.begin-is)
                (part-at_other text i c.loop-i.begin c.loop-i-test.true other c.loop-i.invariant.within c.loop-i.invariant.value);
          }
    ]
