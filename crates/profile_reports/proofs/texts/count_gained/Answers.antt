use Rattle.std.proofs.Common.{◌≡◌, ◌∙◌, not, cond, ap, arith}
use Rattle.profile_reports.specs.Inner.{has}
use Rattle.profile_reports.proofs.Counting.{passes_more}
use Rattle.profile_reports.proofs.texts.count_gained.Goals as goal

pub loop-text-preserved : goal.loop-text-preserved
loop-text-preserved c =
    let set = c.args.written.now in
    let text = c.text-item.result in
    let one : c.missing-gained.result ≡ cond (not (has set text.items)) 1 0 = c.missing-gained.ensures.value ∙ ap (λ s. cond (not (has set s)) 1 0) c.as_slice.ensures.value in
    let step = passes_more (λ t. not (has set t)) c.args.came.now c.loop-text.text-index text c.loop-text-test.true c.text-item.is in
    record {
      room = omega (arith, c.loop-text.invariant.room, c.missing-gained.ensures.small);
      same = omega (arith, one, step, c.loop-text.invariant.same);
    }
