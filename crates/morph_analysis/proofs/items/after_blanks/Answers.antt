use Rattle.std.proofs.Common.{arith, ◌+◌, ◌-◌, length, take, drop, ap}
use Rattle.morph_analysis.proofs.LineLemmas.{bytes_within, left_is, rest_is}
use Rattle.morph_analysis.proofs.items.after_blanks.Goals as goal

pub bytes_of-requires : goal.bytes_of-requires
bytes_of-requires c = omega (arith, bytes_within c.args.letters.now c.run_of-gap.result, c.requires)

pub overflow_add-result : goal.overflow_add-result
overflow_add-result c = omega (arith, bytes_within c.args.letters.now c.run_of-gap.result, c.bytes_of.ensures, c.requires)

pub returns : goal.returns
returns c =
    left_is c.args.at c.run_of-gap.result c.args.letters.now (record { at = c.args.at + c.bytes_of.result; letters = take (length c.args.letters.now - c.run_of-gap.result) (drop c.run_of-gap.result c.args.letters.now) })
    c.run_of-gap.ensures.within c.run_of-gap.ensures.run c.run_of-gap.ensures.stops (ap (λ n. c.args.at + n) c.bytes_of.ensures) (rest_is c.run_of-gap.result c.args.letters.now)
