-- How a worker ends.
use Rattle.std.specs.Prelude.{◌≡◌, ℕ, true, Bool, ◌||◌, ◌==◌}
use Rattle.chart_core.specs.declared.chart.Core.{Core}
use Rattle.chart_core.specs.declared.Caller.{Caller}
use Rattle.chart_core.specs.declared.Entered.{Entered}
use Rattle.chart_core.specs.declared.Entered.TheVariants as entered
use Rattle.chart_core.specs.declared.Outcome.{Outcome}
use Rattle.chart_core.specs.Grammar.{Grammar}
use Rattle.chart_core.specs.Kept.{pending_of}
use Rattle.chart_core.specs.Calls.{IsAnswer}
use Rattle.shared_chart.specs.Seats.{ChartSeat, SameSeat, state_of, saw_mark}
use Rattle.shared_chart.specs.Told.{Sees}
use Rattle.chart_workers.specs.declared.ended.Ended.{Ended}
use Rattle.chart_workers.specs.declared.ended.Ended.TheVariants as ended
use Rattle.chart_workers.specs.declared.working.Turned.{Turned}
use Rattle.chart_workers.specs.declared.working.Turned.TheVariants as turned
use Rattle.chart_workers.specs.Turns.{GoesOn}

module _ {X T C W B : Type 0} where
  -- the work is over for a seat that has seen the mark, or a history after which nothing is pending
  abbrev pub is_over : ChartSeat X T C W B → Bool
  is_over s = saw_mark s || (pending_of (state_of s) == 0)

module _ {X T C W B M : Type 0} (g : Grammar T M C) where
  -- in this state an outcome is answered with `Full`, and so many rows have become hosts
  abbrev pub IsFullAt : Core X T C W B → ℕ → Type 0
  IsFullAt core made = (t : ℕ) × (o : Outcome X T C W B) × (by : Caller) × IsAnswer g core t o by (entered.Full made)

  -- what an answer says of the state that the seat has then seen
  abbrev pub EntersOn : ChartSeat X T C W B → Entered → Type 0
  EntersOn new (entered.Stale place) = Unit {0}
  EntersOn new (entered.Skipped place row) = Unit {0}
  EntersOn new (entered.Noted place) = Unit {0}
  EntersOn new (entered.Full made) = IsFullAt (state_of new) made
  EntersOn new (entered.Placed place row first end) = Unit {0}
  EntersOn new (entered.NoMemory) = Unit {0}

  -- what came of a task, for the seat that took it
  abbrev pub TurnsTo : ChartSeat X T C W B → Turned → Type 0
  TurnsTo new (turned.Goes) = Unit {0}
  TurnsTo new (turned.Over) = is_over new ≡ true
  TurnsTo new (turned.Full made) = IsFullAt (state_of new) made
  TurnsTo new (turned.NoMemory) = Unit {0}

  -- a worker whose seat stands so may end so, once it has called `stop`
  abbrev pub GivesUp : ChartSeat X T C W B → Ended → Type 0
  GivesUp seat (ended.AllDone) = ⊥
  GivesUp seat (ended.Stopped) = ⊥
  GivesUp seat (ended.Full made) = IsFullAt (state_of seat) made
  GivesUp seat (ended.NoMemory) = Unit {0}

  -- the seat has called `stop`
  pub record Stops (old new : ChartSeat X T C W B) : Type 0 where
    pub same : SameSeat old new
    pub sees : Sees g (state_of old) (state_of new)
    pub saw : saw_mark new ≡ true

  -- how a worker leaves its seat that ended so
  abbrev pub EndsAs : ChartSeat X T C W B → Ended → ChartSeat X T C W B → Type 0
  EndsAs old (ended.AllDone) new = GoesOn g old new × (pending_of (state_of new) ≡ 0)
  EndsAs old (ended.Stopped) new = GoesOn g old new × (saw_mark new ≡ true)
  EndsAs old (ended.Full made) new = (at : ChartSeat X T C W B) × GoesOn g old at × IsFullAt (state_of at) made × Stops at new
  EndsAs old (ended.NoMemory) new = (at : ChartSeat X T C W B) × GoesOn g old at × Stops at new
