-- A pool as it is made.
use Rattle.std.specs.Prelude.{◌≡◌, ◌≢◌, ℕ, ◌+◌, ◌-◌, List, [], length, map}
use Rattle.atomic_blocks.specs.Lent.{RowsId}
use Rattle.std.specs.declared.alloc.Global.{Global}
use Rattle.std.specs.declared.vec.Vec.{Vec}
use Rattle.crossbeam_deque.specs.Handles.{view, worker_deque, worker_flavor, worker_view}
use Rattle.crossbeam_deque.specs.declared.handles.Worker.{Worker}
use Rattle.chart_core.specs.declared.TaskId.{TaskId}
use Rattle.chart_workers.specs.declared.hand.Hand.{Hand}
use Rattle.chart_workers.specs.declared.rule.Fair.{Fair}
use Rattle.chart_workers.specs.declared.seat.Door.{Door}
use Rattle.chart_workers.specs.declared.seat.PoolSeat.{PoolSeat}
use Rattle.chart_workers.specs.Balance.{hand}
use Rattle.chart_workers.specs.Pools.{others}
use Rattle.chart_workers.specs.Whole.{ArePlaced}

-- the doors of the seat j, one to each other deque, in order
pub record IsRow (places : List (RowsId × Global)) (j : ℕ) (doors : List Door) : Type 0 where
  pub numbers : map (λ d. d.deque) doors ≡ others j (length places)
  pub placed : ArePlaced places doors

abbrev pub Deque : Type 0
Deque = Worker TaskId Global Hand Fair

-- the deque t gives a part to the seat j, unless it is that seat's own
pub record Lost (j t : ℕ) (old new : Deque) : Type 0 where
  pub place : worker_deque new ≡ worker_deque old
  pub fifo : worker_flavor new ≡ 0
  pub own : t ≡ j → worker_view new ≡ worker_view old
  pub other : t ≢ j → worker_view new ≡ hand ((worker_view old).parts - 1) (worker_view old).put (worker_view old).taken

-- the deque t of n, which has given a part to each other seat
pub record IsCut (n t : ℕ) (d : Deque) : Type 0 where
  pub fifo : worker_flavor d ≡ 0
  pub parts : (worker_view d).parts + n ≡ 65
  pub put : (worker_view d).put ≡ []
  pub taken : (worker_view d).taken ≡ []

-- a door through which nothing was taken
abbrev pub IsNew : Door → Type 0
IsNew d = view d.pass ≡ hand 1 [] []

abbrev pub seat_own : PoolSeat → Deque
seat_own s = s.own

abbrev pub seat_doors : PoolSeat → Vec Door Global
seat_doors s = s.doors
