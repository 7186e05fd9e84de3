use Rattle.std.proofs.Common.{map}
use Rattle.packed_items.specs.Answers.{limits_in}
use Rattle.engine.specs.Views.{speech_of}
use Rattle.profile_reports.specs.Profiles.{an_item}
use Rattle.profile_batch.specs.Results.{a_result}
use Rattle.profile_batch.proofs.Judged.{gap-is}
use Rattle.profile_batch.proofs.judging.Judge.found.Goals as goal

pub returns-in-Ok : goal.returns-in-Ok
returns-in-Ok g c = λ expected. a_result (an_item expected c.args.sentence.now (map (λ t. t.items) c.args.trees.now)) c.in-Ok.found (c.in-Ok.ensures expected)

pub returns-in-Err : goal.returns-in-Err
returns-in-Err g c = λ expected.
    let j = c.args.self.now in
    gap-is (speech_of j.engine) (limits_in j.limits) j.limits.lexical c.args.place expected c.args.sentence.now (map (λ t. t.items) c.args.trees.now) c.plain.result c.plain.ensures
