use Rattle.std.proofs.Common.{◌≡◌, ◌+◌, ◌≤◌, ◌++◌, length, map, reverse}
use Rattle.chart_workers.specs.Pools.{seat_post, pass_post}
use Rattle.chart_rows.proofs.pools.passes.Given as goal

abbrev pub invariant-loop-seat : goal.invariant-loop-seat
invariant-loop-seat l = record {
  posts : map pass_post l.found.items ++ map seat_post (reverse l.seats.items) ≡ map seat_post l.fn.seats.items;
  room : length l.found.items + length l.seats.items ≤ l.found.cap;
}

abbrev pub decreases-loop-seat : goal.decreases-loop-seat
decreases-loop-seat l = length l.seats.items
