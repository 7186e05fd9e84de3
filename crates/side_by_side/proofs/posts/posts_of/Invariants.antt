use Rattle.std.proofs.Common.{◌≡◌, ◌+◌, ◌-◌, ◌≤◌, [], All, length}
use Rattle.side_by_side.specs.Plays.{all_hands}
use Rattle.side_by_side.specs.Inner.Posts.{IsFresh}
use Rattle.side_by_side.proofs.posts.posts_of.Given as goal

abbrev pub invariant-loop-number : goal.invariant-loop-number
invariant-loop-number g l = record {
  id : l.seat.table_id ≡ l.draws.table.shared.table_id;
  me : l.seat.me ≡ (all_hands l.draws.table.shared.key.count (l.workers + 1 - l.number), []);
  count : length l.posts.items + 1 ≡ l.number;
  fresh : All (IsFresh l.draws l.draws.table.shared.key.count) l.posts.items;
  room : l.workers ≤ l.posts.cap;
}
