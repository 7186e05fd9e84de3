use Rattle.std.proofs.Common.{◌≡◌, map}
use Rattle.chart_workers.specs.Pools.{seat_post}
use Rattle.chart_rows.proofs.pools.steps.Given as goal

abbrev pub invariant-loop-word : goal.invariant-loop-word
invariant-loop-word g l =
    (goal.iterator-loop-word g).can_next l.word-iterator ×
    (goal.iterator-loop-word g).is_finite l.word-iterator ×
    (map seat_post l.seats.items ≡ map seat_post l.initial.seats.items)
