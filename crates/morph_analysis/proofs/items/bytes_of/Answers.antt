use Rattle.std.proofs.Common.{arith, ◌+◌}
use Rattle.morph_analysis.proofs.LineLemmas.{bytes_next, bytes_within}
use Rattle.morph_analysis.proofs.items.bytes_of.Goals as goal

pub overflow_add-bytes : goal.overflow_add-bytes
overflow_add-bytes c =
    let next = bytes_next c.args.letters.now c.loop-c.c-index c.c-item.result c.loop-c-test.true c.c-item.is in
    omega (arith, next, bytes_within c.args.letters.now (c.loop-c.c-index + 1), c.loop-c.invariant, c.len_utf8.ensures.len, c.requires)

pub loop-c-preserved : goal.loop-c-preserved
loop-c-preserved c =
    let next = bytes_next c.args.letters.now c.loop-c.c-index c.c-item.result c.loop-c-test.true c.c-item.is in
    omega (arith, next, c.loop-c.invariant, c.len_utf8.ensures.len)
