use Rattle.std.proofs.Common.{arith, ◌≡◌, ◌+◌, get_or, sym}
use Rattle.morph_analysis.proofs.LineLemmas.{value_next, value_least}
use Rattle.morph_analysis.proofs.written.number.Goals as goal

pub returns-then-value-gt-GREATEST : goal.returns-then-value-gt-GREATEST
returns-then-value-gt-GREATEST c = λ n p.
    let next = value_next c.args.letters.now c.loop-c.c-index c.c-item.result c.loop-c-test.true in
    let is : get_or c.args.letters.now c.loop-c.c-index c.c-item.result ≡ c.c-item.result = sym c.c-item.is in
    absurd (omega (arith, next, is, c.loop-c.invariant.value, value_least c.args.letters.now (c.loop-c.c-index + 1), p.is, p.within, c.if-value-gt-GREATEST.true))
