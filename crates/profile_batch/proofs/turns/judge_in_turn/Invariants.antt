use Rattle.std.proofs.Common.{◌≤◌, length, take}
use Rattle.std.specs.Vec.{vec_capacity}
use Rattle.packed_items.specs.Answers.{limits_in}
use Rattle.engine.specs.Views.{speech_of}
use Rattle.side_by_side.specs.Works.{AreGiven}
use Rattle.profile_reports.specs.ItemsViews.{item_kept}
use Rattle.profile_batch.specs.Results.{IsResultOrGap}
use Rattle.profile_batch.proofs.turns.judge_in_turn.Given as goal

abbrev pub invariant-loop-place : goal.invariant-loop-place
invariant-loop-place g l = record {
  given : AreGiven (λ place item r. IsResultOrGap (speech_of l.judge.engine) (limits_in l.judge.limits) l.judge.limits.lexical place (item_kept item) r) 0 (take l.place l.items) l.results.items;
  room : length l.items ≤ vec_capacity l.results;
}
