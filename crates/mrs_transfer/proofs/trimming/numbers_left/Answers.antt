use Rattle.std.proofs.Common.{ℕ, ◌<◌, ◌+◌, ◌∙◌, true, false, List, length, get_or, ap, arith}
use Rattle.std.proofs.lemmas.List.{length_push}
use Rattle.mrs_transfer.proofs.Kept.{counted_marked}
use Rattle.mrs_transfer.proofs.Left.{numbers_on}
use Rattle.mrs_transfer.proofs.trimming.numbers_left.Goals as goal
use Rattle.mrs_transfer.proofs.trimming.numbers_left.Goals.{then-mark, else-mark}

pub loop-mark-preserved : goal.loop-mark-preserved
loop-mark-preserved c =
    let size = ap length c.in_ok-push.ensures.items ∙ length_push c.loop-mark.to.items _ in
    let numbers = λ (v : ℕ) (l : v < c.loop-mark.mark-index + 1).
    ap (λ (zs : List ℕ). get_or zs v 0) c.in_ok-push.ensures.items
    ∙ numbers_on c.args.marks.now c.loop-mark.mark-index c.loop-mark.to.items c.in_ok-number_of.field-0 c.loop-mark.invariant.size (c.in_ok-number_of.ensures ∙ c.loop-mark.invariant.next) c.loop-mark.invariant.numbers v l in
    elim c.if-mark.branch [
      | then-mark w ↦ record {
        size = omega (arith, size, c.loop-mark.invariant.size);
        next = omega (arith, w.next-is, c.loop-mark.invariant.next, counted_marked c.args.marks.now c.loop-mark.mark-index _ true (omega arith) w.if-mark.true);
        few = omega (arith, w.next-is, c.loop-mark.invariant.few);
        numbers = numbers;
      }
      | else-mark w ↦ record {
        size = omega (arith, size, c.loop-mark.invariant.size);
        next = omega (arith, w.next-is, c.loop-mark.invariant.next, counted_marked c.args.marks.now c.loop-mark.mark-index _ false (omega arith) w.if-mark.false);
        few = omega (arith, w.next-is, c.loop-mark.invariant.few);
        numbers = numbers;
      }
    ]
