-- A seat at its chart.
use Rattle.std.specs.Prelude.{◌≡◌, ℕ}
use Rattle.shared_chart.specs.declared.shared.SharedChart.{SharedChart}
pub use Rattle.chart_workers.specs.Turns.{IsFound}
use Rattle.shared_chart.specs.Seats.{ChartSeat, seat_id, chart_id, number_of, shapes_of}

module _ {X T C W B : Type 0} where
  -- the seat of this number of a chart over these shapes
  abbrev pub Sits : SharedChart X T C W B → X → ℕ → ChartSeat X T C W B → Type 0
  Sits chart shapes number seat = (seat_id seat ≡ chart_id chart) × (number_of seat ≡ number) × (shapes ≡ shapes_of seat)
