use Rattle.std.proofs.Common.{◌≡◌, []}
use Rattle.chart_rows.specs.Sitting.{Sits}
use Rattle.chart_rows.proofs.seats.shared.Given as goal

abbrev pub invariant-loop-step : goal.invariant-loop-step
invariant-loop-step g l =
    (goal.iterator-loop-step g).can_next l.step-iterator ×
    (goal.iterator-loop-step g).is_finite l.step-iterator ×
    Sits l.on.chart.now l.shapes 0 l.both.first ×
    Sits l.on.chart.now l.shapes 1 l.both.second
