use Rattle.std.proofs.Common.{◌≡◌, ◌+◌, ◌≤◌, ◌++◌, length, map, reverse}
use Rattle.chart_workers.specs.Posts.{post_seat}
use Rattle.chart_workers.proofs.posts.posts.Given as goal

abbrev pub invariant-loop-seat : goal.invariant-loop-seat
invariant-loop-seat g l = record {
  seats : map post_seat l.found.items ++ reverse l.seats.items ≡ l.fn.seats.items;
  count : length l.pools.items ≡ length l.seats.items;
  room : length l.found.items + length l.seats.items ≤ l.found.cap;
}

abbrev pub decreases-loop-seat : goal.decreases-loop-seat
decreases-loop-seat g l = length l.seats.items
