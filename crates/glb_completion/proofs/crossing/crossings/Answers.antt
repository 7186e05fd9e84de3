use Rattle.std.proofs.Common.{◌≡◌, ◌∙◌, ◌<◌, ◌||◌, not, Bool, true, false, refl, sym, subst, arith}
use Rattle.type_hierarchy.specs.Bits.{has_bit, IsRow}
use Rattle.type_hierarchy.proofs.SetLemmas.{differ}
use Rattle.glb_completion.proofs.CrossingLemmas.{one_more, under_of}
use Rattle.glb_completion.proofs.crossing.crossings.Goals as goal

unmarked : (a b : Bool) → (a || not b) ≡ false → b ≡ true
unmarked a true e = refl
unmarked true false e = absurd (differ true refl e)
unmarked false false e = absurd (differ true refl e)

pub loop-x-init : goal.loop-x-init
loop-x-init c = record {
  row_is = subst (λ n. IsRow n c.in_ok-row.row.items) c.count-count.ensures.count c.in_ok-row.ensures.row;
  crossed = λ y l. absurd (omega arith);
}

pub is_under_one-requires-clause-rows : goal.is_under_one-requires-clause-rows
is_under_one-requires-clause-rows c = (c.args.h.now.written, omega (arith, c.loop-x-test.true, c.count-count.ensures.count), c.requires.rows)

pub loop-x-preserved : goal.loop-x-preserved
loop-x-preserved c =
    let h = c.args.h.now in
    let x = c.loop-x.x in
    let x_in : x < h.written = omega (arith, c.loop-x-test.true, c.count-count.ensures.count) in
    record {
      row_is = c.mark.ensures.row h.written x_in c.loop-x.invariant.row_is;
      crossed = one_more h c.loop-x.row.items c.mark.new.row.items x c.in_ok-is_under.is_under c.loop-x.invariant.crossed
          (λ e. let u = c.in_ok-is_under.ensures e in (u.0, under_of h c.args.above.now x u.0 x_in c.requires.up u.1))
          (λ e. unmarked (has_bit c.loop-x.row.items x) c.in_ok-is_under.is_under (sym c.mark.ensures.has ∙ e)) c.mark.ensures.others;
    }

pub returns : goal.returns
returns c = record {
  row = c.loop-x.invariant.row_is;
  crossings = λ x l e. c.loop-x.invariant.crossed x (omega (arith, l, c.loop-x-test.false, c.count-count.ensures.count)) e;
}
