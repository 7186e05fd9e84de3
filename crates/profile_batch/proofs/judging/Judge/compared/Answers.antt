use Rattle.std.proofs.Common.{◌≡◌, map}
use Rattle.packed_items.specs.Answers.{limits_in}
use Rattle.engine.specs.Views.{speech_of}
use Rattle.engine.proofs.Results.{if-ok}
use Rattle.profile_reports.specs.declared.profiles.Expected.{Expected}
use Rattle.profile_reports.specs.Profiles.{an_item}
use Rattle.profile_reports.specs.Outcomes.{Outcome}
use Rattle.profile_reports.specs.Views.{Keeps}
use Rattle.profile_reports.specs.Comparing.{result_of}
use Rattle.profile_batch.specs.Results.{IsResult, outcome_of}
use Rattle.profile_batch.proofs.Judged.{judged-is, some-wanted}
use Rattle.profile_batch.proofs.judging.Judge.compared.Goals as goal

pub returns : goal.returns
returns g c =
    let j = c.args.self.now in
    let speech = speech_of j.engine in
    let trees = map (λ t. t.items) c.args.trees.now in
    let came = c.in_ok-came.ensures.kept in
    if-ok c.result_of.result
    (λ r. (outcome : Outcome) → Keeps c.in_ok-came.came outcome → r ≡ result_of c.args.place trees outcome)
    (λ r. (expected : Expected) → IsResult speech (limits_in j.limits) j.limits.lexical c.args.place (an_item expected c.args.sentence.now trees) r)
    (λ r same expected. judged-is speech (limits_in j.limits) j.limits.lexical c.args.place expected c.args.sentence.now trees came.0 r came.1 (same (outcome_of speech.names came.0) came.2))
    c.result_of.ensures

pub result_of-requires-clause-texts : goal.result_of-requires-clause-texts
result_of-requires-clause-texts g c = λ some. c.in_ok-came.ensures.texts (some-wanted c.args.trees.now c.is_empty.result c.is_empty.ensures some)
