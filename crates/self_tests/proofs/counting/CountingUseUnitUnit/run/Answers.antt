use Rattle.std.proofs.Common.{ℕ, Vec, Global, All, sym, subst}
use Rattle.std.specs.Str.{IsUtf8}
use Rattle.packed_items.specs.Answers.{limits_in}
use Rattle.engine.specs.Views.{speech_of}
use Rattle.engine.proofs.NamedTrees.{unmap}
use Rattle.engine.proofs.Results.{if-ok}
use Rattle.side_by_side.specs.Works.{AreGiven}
use Rattle.self_tests.specs.Lines.{lines}
use Rattle.self_tests.specs.Items.{AreCountsOrGaps}
use Rattle.self_tests.specs.Inner.Counts.{MayBeCounted}
use Rattle.self_tests.proofs.CountedLines.{given-counted}
use Rattle.self_tests.proofs.counting.CountingUseUnitUnit.run.Goals as goal

pub count_all-requires-clause-text : goal.count_all-requires-clause-text
count_all-requires-clause-text g c κs within =
    let job = c.args.self.now in
    unmap IsUtf8 (λ (l : Vec ℕ Global). l.items) job.lines.now (subst (All IsUtf8) (sym job.lines_are) (c.lines_are_text.ensures job.test.now.number job.test.now.size))

pub returns : goal.returns
returns g c =
    let job = c.args.self.now in
    let test = job.test.now in
    let speech = speech_of c.args.engine.now in
    let limits = limits_in test.limits in
    if-ok c.count_all.result
    (λ counts. AreGiven (λ place (line : Vec ℕ Global) count. MayBeCounted speech limits test.limits.lexical line.items count) 0 job.lines.now counts.items)
    (λ counts. AreCountsOrGaps speech.signs speech.words limits test.limits.lexical (lines test.number test.size) counts.items)
    (λ counts given. subst (λ ls. AreCountsOrGaps speech.signs speech.words limits test.limits.lexical ls counts.items) job.lines_are
    (given-counted speech limits test.limits.lexical (λ (l : Vec ℕ Global). l.items) 0 job.lines.now counts.items given)) c.count_all.ensures
