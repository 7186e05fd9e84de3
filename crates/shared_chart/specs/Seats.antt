-- What a seat has seen and made.
use Rattle.std.specs.Prelude.{◌≡◌, ℕ, Bool, false, List, []}
use Rattle.atomic_table.specs.Seated.{TableId}
use Rattle.chart_core.specs.declared.chart.Core.{Core}
use Rattle.shared_chart.specs.TurnSeats.{own_calls}
use Rattle.shared_chart.specs.declared.chart.Call.{Call}
use Rattle.shared_chart.specs.declared.chart.Chart.{Chart}
use Rattle.shared_chart.specs.declared.held.LockSeat.{LockSeat}
use Rattle.shared_chart.specs.Held as held
use Rattle.shared_chart.specs.declared.shared.SharedChart.{SharedChart}

abbrev pub ChartSeat : (X T C W B : Type 0) → Type 0
ChartSeat X T C W B = LockSeat X (Chart X T C W B) Call

module _ {X T C W B : Type 0} where
  -- the grammar's shapes
  abbrev pub shapes_of : ChartSeat X T C W B → X
  shapes_of s = held.base_of s

  -- the chart after the longest beginning of the history that the seat has seen
  abbrev pub state_of : ChartSeat X T C W B → Core X T C W B
  state_of s = (held.state_of s).core

  -- its own calls
  abbrev pub made_by : ChartSeat X T C W B → List Call
  made_by s = own_calls s.chair.me.0.claims

  -- whether it has seen the mark, and whether it has set it
  abbrev pub saw_mark : ChartSeat X T C W B → Bool
  saw_mark s = s.chair.me.0.saw

  abbrev pub set_mark : ChartSeat X T C W B → ℕ
  set_mark s = s.chair.me.0.set

  abbrev pub seat_id : ChartSeat X T C W B → TableId
  seat_id s = s.chair.table_id

  abbrev pub number_of : ChartSeat X T C W B → ℕ
  number_of s = s.number

  abbrev pub chart_id : SharedChart X T C W B → TableId
  chart_id c = c.lock.board.shared.table_id

  -- it stays at its chart, with its number and its grammar
  pub record SameSeat (old new : ChartSeat X T C W B) : Type 0 where
    pub id : seat_id new ≡ seat_id old
    pub number : number_of new ≡ number_of old
    pub shapes : shapes_of new ≡ shapes_of old

  -- a call that enters nothing and says nothing of the mark
  pub record Reads (old new : ChartSeat X T C W B) : Type 0 where
    pub same : SameSeat old new
    pub made : made_by new ≡ made_by old
    pub saw : saw_mark new ≡ saw_mark old
    pub set : set_mark new ≡ set_mark old

module _ {X T C W B : Type 0} where
  -- the grammar's shapes, and how many seats there are
  abbrev pub chart_shapes : SharedChart X T C W B → X
  chart_shapes c = c.lock.board.shared.key.base.value

  abbrev pub chart_seats : SharedChart X T C W B → ℕ
  chart_seats c = c.lock.board.shared.key.seats

  -- the seat of this number as the chart is opened: it has seen the opening state, and made no call
  pub record IsFirst (c : SharedChart X T C W B) (i : ℕ) (opening : Core X T C W B) (s : ChartSeat X T C W B) : Type 0 where
    pub id : seat_id s ≡ chart_id c
    pub number : number_of s ≡ i
    pub shapes : shapes_of s ≡ chart_shapes c
    pub state : state_of s ≡ opening
    pub made : made_by s ≡ []
    pub saw : saw_mark s ≡ false
    pub set : set_mark s ≡ 0

  -- the seat of this number, of this chart
  abbrev pub IsSeat : SharedChart X T C W B → ℕ → ChartSeat X T C W B → Type 0
  IsSeat c i s = (seat_id s ≡ chart_id c) × (number_of s ≡ i)
