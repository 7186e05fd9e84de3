use Rattle.std.proofs.Common.{◌≡◌, ℕ, ◌≤◌, ◌<◌, ◌++◌, List, length}
use mathlib.Core.Option.{some}
use lib.ListN.{get_elem?}
use Rattle.shared_chart.specs.TurnSeats.{IsIdle, Has}
use Rattle.shared_chart.proofs.Gathers.{IsSetIn}
use Rattle.shared_chart.proofs.lock.TurnLock.gather.Given as goal

abbrev pub invariant-loop-seat : goal.invariant-loop-seat
invariant-loop-seat g l = record {
  id : l.first.table_id ≡ l.self.board.shared.table_id;
  rests : IsIdle l.first.me;
  left : (rest : List _) × (l.fn.seats.items ≡ l.seats.items ++ rest);
  has : (i : ℕ) (c : _) → get_elem? l.fn.seats.items i ≡ some c → length l.seats.items ≤ i → Has l.first.me i c.chair.me;
  set : 0 < l.first.me.0.set → IsSetIn l.fn.seats.items;
}

abbrev pub decreases-loop-seat : goal.decreases-loop-seat
decreases-loop-seat g l = length l.seats.items
