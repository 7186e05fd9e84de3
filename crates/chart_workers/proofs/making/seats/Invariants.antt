use Rattle.std.proofs.Common.{◌≡◌, ℕ, ◌+◌, ◌≤◌, ◌++◌, length, map, reverse}
use mathlib.Core.Option.{some}
use lib.ListN.{get_elem?}
use Rattle.chart_workers.specs.Making.{seat_own, seat_doors}
use Rattle.chart_workers.proofs.making.seats.Given as goal

abbrev pub invariant-loop-own : goal.invariant-loop-own
invariant-loop-own l = record {
  own : map seat_own l.found.items ++ reverse l.deques.items ≡ l.fn.deques.items;
  doors : map seat_doors l.found.items ++ reverse l.rows.items ≡ l.fn.rows.items;
  numbers : (j : ℕ) (s : _) → get_elem? l.found.items j ≡ some s → s.number ≡ j;
  count : length l.rows.items ≡ length l.deques.items;
  room : length l.found.items + length l.deques.items ≤ l.found.cap;
}

abbrev pub decreases-loop-own : goal.decreases-loop-own
decreases-loop-own l = length l.deques.items
