use Rattle.std.proofs.Common.{map}
use Rattle.packed_items.specs.Answers.{limits_in}
use Rattle.grammar_load.specs.Views.{grammar_of}
use Rattle.engine.specs.Speeches.{Speech, IsSpeechOf}
use Rattle.engine.proofs.Results.{if-ok}
use Rattle.profile_reports.specs.ItemsViews.{item_kept}
use Rattle.profile_batch.specs.Results.{AreResultsOrGaps}
use Rattle.profile_batch.proofs.batching.batch.Goals as goal

pub returns-in-Ok : goal.returns-in-Ok
returns-in-Ok g c =
    let limits = c.args.limits.now in
    let items = map item_kept c.args.items.now in
    let z = c.in-Ok.ensures.given in
    if-ok c.in-Ok.results
    (λ results. AreResultsOrGaps z.0 (limits_in limits) limits.lexical items results.items)
    (λ results. (speech : Speech) × IsSpeechOf (grammar_of c.args.grammar.now) speech × AreResultsOrGaps speech (limits_in limits) limits.lexical items results.items)
    (λ results are. (z.0, z.1, are)) z.2
