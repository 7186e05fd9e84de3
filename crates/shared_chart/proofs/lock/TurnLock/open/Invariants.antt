use Rattle.std.proofs.Common.{◌≡◌, ℕ, ◌+◌, ◌≤◌, length}
use mathlib.Core.Option.{some}
use lib.ListN.{get_elem?}
use Rattle.shared_chart.specs.TurnSeats.{Makes}
use Rattle.shared_chart.specs.Held.{IsOpened}
use Rattle.shared_chart.proofs.lock.TurnLock.open.Given as goal

abbrev pub invariant-loop-number : goal.invariant-loop-number
invariant-loop-number g l = record {
  table : l.first.table_id ≡ l.lock.board.shared.table_id;
  first : Makes l.seats l.number l.base l.fn.object l.first.me;
  count : length l.later.items + 1 ≡ l.number;
  each : (i : ℕ) (c : _) → get_elem? l.later.items i ≡ some c → IsOpened l.lock.board.shared.table_id (i + 1) l.base l.fn.object c;
  room : l.seats ≤ l.later.cap + 1;
}
