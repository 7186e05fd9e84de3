use Rattle.std.proofs.Common.{◌<◌, ◌∙◌, ap, arith}
use Rattle.std.specs.Int.{bit_at, w64}
use Rattle.std.proofs.lemmas.Nat.Bits.{bit_at-trailing_zeros}
use Rattle.type_hierarchy.specs.Inner.Marks.{bit_of}
use Rattle.type_hierarchy.proofs.MarkLemmas.{left_next, left_less}
use Rattle.type_hierarchy.proofs.SetLemmas.{differ}
use Rattle.type_hierarchy.proofs.marks.is_subset_in.Goals as goal

pub returns-then-not-is_subset_at : goal.returns-then-not-is_subset_at
returns-then-not-is_subset_at c =
    let some : 0 < c.loop-left.left = omega (arith, c.loop-left-test.true) in
    let low = bit_at-trailing_zeros w64 c.loop-left.left some c.loop-left.invariant.fits in (
      λ e. absurd cc,
      λ all. absurd (differ _ (c.is_subset_at.ensures.1 (λ x e. all x (c.loop-left.invariant.rest (bit_of x) (ap (bit_at c.loop-left.left) e ∙ low.1)))) c.if-not-is_subset_at.true),
    )

pub loop-left-smaller : goal.loop-left-smaller
loop-left-smaller c =
    let some : 0 < c.loop-left.left = omega (arith, c.loop-left-test.true) in
    let low = bit_at-trailing_zeros w64 c.loop-left.left some c.loop-left.invariant.fits in
    left_less c.loop-left.left _ low.0 low.1

pub loop-left-preserved : goal.loop-left-preserved
loop-left-preserved c =
    let some : 0 < c.loop-left.left = omega (arith, c.loop-left-test.true) in
    let low = bit_at-trailing_zeros w64 c.loop-left.left some c.loop-left.invariant.fits in
    left_next c.args.mark c.loop-left.left _ _ low.0 (c.is_subset_at.ensures.0 c.if-not-is_subset_at.false) c.loop-left.invariant
