-- What stays as it is while a seat works.
use Rattle.std.proofs.Common.{◌≡◌, map}
use Rattle.crossbeam_deque.specs.Handles.{view, worker_view, worker_deque, stealer_deque}
use Rattle.chart_workers.specs.declared.seat.Door.{Door}
use Rattle.chart_workers.specs.declared.seat.PoolSeat.{PoolSeat}
use Rattle.chart_workers.specs.Pools.{way, door_way, seat_post}

pub way_same : (d d' : Door) → d'.deque ≡ d.deque → stealer_deque d'.thief ≡ stealer_deque d.thief → (view d'.pass).parts ≡ (view d.pass).parts → door_way d' ≡ door_way d
way_same d d' n s p = λ i. way (n i) (s i) (p i)

pub post_same : (s s' : PoolSeat) → s'.number ≡ s.number → worker_deque s'.own ≡ worker_deque s.own → (worker_view s'.own).parts ≡ (worker_view s.own).parts → map door_way s'.doors.items ≡ map door_way s.doors.items → seat_post s' ≡ seat_post s
post_same s s' n d p w = λ i. record { own = way (n i) (d i) (p i); doors = w i }
