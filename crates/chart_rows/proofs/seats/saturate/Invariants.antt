use Rattle.shared_chart.specs.Seats.{SameSeat}
use Rattle.chart_rows.proofs.seats.saturate.Given as goal

abbrev pub invariant-loop-number : goal.invariant-loop-number
invariant-loop-number g l = SameSeat l.initial.seat l.seat
