use Rattle.std.proofs.Common.{length, arith}
use Rattle.std.proofs.lemmas.List.Sums.{position_or_len_is}
use Rattle.fault_places.specs.Places.{is_end}
use Rattle.fault_places.proofs.first_end.Goals as goal

pub returns-clause-value : goal.returns-clause-value
returns-clause-value c =
    let text = c.args.text.now in
    position_or_len_is is_end text (length text) 0 (omega arith) (λ k h. c.loop-i.invariant k (omega (arith, h, c.loop-i-test.false))) (λ h. absurd (omega (arith, h)))
