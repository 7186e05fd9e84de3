-- What a seat knows of each deque of its pool: its own first, and then one for each door.
use Rattle.std.specs.Prelude.{◌≡◌, ℕ, List, [], ◌∷◌, ◌++◌, map, slice_set}
use mathlib.Core.Option.{some}
use lib.ListN.{get_elem?}
use Rattle.atomic_blocks.specs.Lent.{RowsId}
use Rattle.crossbeam_deque.specs.Handles.{view, worker_view, worker_deque, stealer_deque}
use Rattle.chart_core.specs.declared.TaskId.{TaskId}
use Rattle.chart_workers.specs.declared.hand.Hand.{Hand}
use Rattle.chart_workers.specs.declared.seat.Door.{Door}
use Rattle.chart_workers.specs.declared.seat.PoolSeat.{PoolSeat}
use Rattle.chart_workers.specs.Balance.{hand}

abbrev pub door_hand : Door → Hand
door_hand d = view d.pass

abbrev pub hands : PoolSeat → List Hand
hands s = worker_view s.own ∷ map door_hand s.doors.items

-- which deques they are
abbrev pub door_place : Door → RowsId
door_place d = (stealer_deque d.thief).0

abbrev pub places : PoolSeat → List RowsId
places s = (worker_deque s.own).0 ∷ map door_place s.doors.items

-- one task more was taken from one deque, and nothing else changed
abbrev pub Took : List Hand → TaskId → List Hand → Type 0
Took before t after = (k : ℕ) × (v : Hand) × (get_elem? before k ≡ some v) × (after ≡ slice_set before k (hand v.parts v.put (v.taken ++ t ∷ [])))
