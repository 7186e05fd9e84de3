use Rattle.std.proofs.Common.{map}
use Rattle.packed_items.specs.Answers.{limits_in}
use Rattle.side_by_side.specs.Works.{AreGiven}
use Rattle.engine.specs.Views.{speech_of}
use Rattle.engine.proofs.Results.{if-ok}
use Rattle.profile_reports.specs.ItemsViews.{item_kept}
use Rattle.profile_batch.specs.Results.{IsResultOrGap, AreResultsOrGaps}
use Rattle.profile_batch.proofs.Kept.{kept-given}
use Rattle.profile_batch.proofs.batching.ItemsUseUnitUnit.run.Goals as goal

pub returns : goal.returns
returns g c =
    let job = c.args.self.now in
    let speech = speech_of c.args.engine.now in
    let limits = limits_in job.limits in
    if-ok c.judge_all.result
    (λ results. AreGiven (λ place item r. IsResultOrGap speech limits job.limits.lexical place (item_kept item) r) 0 job.items.now results.items)
    (λ results. AreResultsOrGaps speech limits job.limits.lexical (map item_kept job.items.now) results.items)
    (λ results are. kept-given item_kept (IsResultOrGap speech limits job.limits.lexical) 0 job.items.now results.items are) c.judge_all.ensures
