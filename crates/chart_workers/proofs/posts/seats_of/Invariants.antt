use Rattle.std.proofs.Common.{◌≡◌, ◌+◌, ◌≤◌, ◌++◌, length, map, reverse}
use Rattle.chart_workers.specs.Posts.{post_seat}
use Rattle.chart_workers.proofs.posts.seats_of.Given as goal

abbrev pub invariant-loop-post : goal.invariant-loop-post
invariant-loop-post g l = record {
  seats : l.found.items ++ map post_seat (reverse l.posts.items) ≡ map post_seat l.fn.posts.items;
  room : length l.found.items + length l.posts.items ≤ l.found.cap;
}

abbrev pub decreases-loop-post : goal.decreases-loop-post
decreases-loop-post g l = length l.posts.items
