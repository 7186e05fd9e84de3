use Rattle.packed_items.specs.Answers.{limits_in}
use Rattle.engine.specs.Views.{speech_of}
use Rattle.side_by_side.specs.Works.{AreGiven}
use Rattle.profile_reports.specs.ItemsViews.{item_kept}
use Rattle.profile_batch.specs.Results.{IsResultOrGap}
use Rattle.profile_batch.proofs.turns.judge_again.Given as goal

abbrev pub invariant-loop-place : goal.invariant-loop-place
invariant-loop-place g l =
    AreGiven (λ place item r. IsResultOrGap (speech_of l.judge.engine) (limits_in l.judge.limits) l.judge.limits.lexical place (item_kept item) r) 0 l.items l.results.items
