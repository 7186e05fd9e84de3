use Rattle.std.proofs.Common.{◌≡◌, ◌≤◌, ◌+◌, ◌-◌, [], All, length, false}
use Rattle.side_by_side.specs.Inner.Posts.{IsDone, places_of}
use Rattle.side_by_side.proofs.posts.attend.Given as goal

abbrev pub invariant-loop-turn : goal.invariant-loop-turn
invariant-loop-turn g l = record {
  id : l.post.seat.table_id ≡ l.initial.post.seat.table_id;
  me : l.post.seat.me ≡ (record { count = length l.things; hands = 1; drawn = places_of l.post.done.items; over = 0 }, []);
  turn : length l.post.done.items ≡ l.turn;
  within : l.turn ≤ length l.things;
  done : All (IsDone (g.K.Work.Gives l.work) l.things) l.post.done.items;
  calm : l.post.refused ≡ false;
}

abbrev pub decreases-loop-turn : goal.decreases-loop-turn
decreases-loop-turn g l = length l.things + 1 - l.turn
