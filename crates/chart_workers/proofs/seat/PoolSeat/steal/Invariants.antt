use Rattle.std.proofs.Common.{◌≡◌, ◌-◌, map, length}
use Rattle.chart_workers.specs.Seats.{door_hand, door_place}
use Rattle.chart_workers.specs.Pools.{door_way}
use Rattle.chart_workers.proofs.seat.PoolSeat.steal.Given as goal

abbrev pub invariant-loop-at : goal.invariant-loop-at
invariant-loop-at g l = record {
  own : l.self.own ≡ l.initial.self.own;
  number : l.self.number ≡ l.initial.self.number;
  ways : map door_way l.self.doors.items ≡ map door_way l.initial.self.doors.items;
  places : map door_place l.self.doors.items ≡ map door_place l.initial.self.doors.items;
  hands : map door_hand l.self.doors.items ≡ map door_hand l.initial.self.doors.items;
}

abbrev pub decreases-loop-at : goal.decreases-loop-at
decreases-loop-at g l = length l.self.doors.items - l.at
