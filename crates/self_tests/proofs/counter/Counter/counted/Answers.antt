use Rattle.std.proofs.Common.{◌≡◌, subst}
use Rattle.packed_items.specs.Answers.{limits_in}
use Rattle.engine.specs.Views.{speech_of}
use Rattle.self_tests.specs.Items.{a_gap}
use Rattle.self_tests.specs.Inner.Counts.{MayBeCounted}
use Rattle.self_tests.proofs.CountedLines.{may-be}
use Rattle.self_tests.proofs.counter.Counter.counted.Goals as goal

pub returns-in-Ok-count_line : goal.returns-in-Ok-count_line
returns-in-Ok-count_line g c =
    let k = c.args.self.now in
    let speech = speech_of k.engine.now in
    let limits = limits_in k.limits.now in
    let most = k.limits.now.lexical in
    let count = c.in-Ok-count_line.count in
    let same : c.in-Ok.text.now ≡ c.args.line.now = c.in-Ok.ensures.cases.0 in
    subst (λ l. MayBeCounted speech limits most l count) same (may-be speech limits most c.in-Ok.text.now count c.in-Ok-count_line.ensures)

pub returns-in-Err : goal.returns-in-Err
returns-in-Err g c = a_gap
