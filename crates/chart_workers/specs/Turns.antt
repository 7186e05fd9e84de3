-- What a worker's turn leaves of its seat.
use Rattle.std.specs.Prelude.{◌≡◌, ℕ, ◌<◌, true}
use Rattle.chart_core.specs.declared.Outcome.{Outcome}
use Rattle.chart_core.specs.Grammar.{Grammar}
use Rattle.chart_core.specs.Kept.{IsCore, tasks_of}
use Rattle.chart_core.specs.Outcomes.{ShapeBelongs}
use Rattle.shared_chart.specs.Seats.{ChartSeat, SameSeat, state_of, saw_mark, set_mark}
use Rattle.shared_chart.specs.Told.{Sees, IsRightSince}

module _ {X T C W B M : Type 0} (g : Grammar T M C) where
  -- the seat goes on: it has seen a history that begins with what it had seen, may have seen the mark, and hasn't set it now
  pub record GoesOn (old new : ChartSeat X T C W B) : Type 0 where
    pub same : SameSeat old new
    pub sees : Sees g (state_of old) (state_of new)
    pub saw : saw_mark old ≡ true → saw_mark new ≡ true
    pub set : set_mark new ≡ set_mark old

  -- the task is made, and the outcome is right for it from now on
  pub record IsFound (seat : ChartSeat X T C W B) (t : ℕ) (o : Outcome X T C W B) : Type 0 where
    pub core : IsCore g (state_of seat)
    pub made : t < tasks_of (state_of seat)
    pub right : IsRightSince g (state_of seat) t o
    pub belongs : ShapeBelongs g.belongs o
