use Rattle.std.proofs.Common.{◌≡◌, ◌+◌, All, length}
use Rattle.side_by_side.specs.Inner.Posts.{HasLeft, HasJoined}
use Rattle.side_by_side.proofs.posts.close_posts.Given as goal

abbrev pub invariant-loop-post : goal.invariant-loop-post
invariant-loop-post g l = record {
  hands : length l.posts.items + l.first.seat.me.0.hands ≡ l.draws.table.shared.key.seats;
  left : All (HasLeft (g.K.Work.Gives l._work) l._things l.draws) l.posts.items;
  joined : HasJoined (g.K.Work.Gives l._work) l._things l.draws l.first;
}

abbrev pub decreases-loop-post : goal.decreases-loop-post
decreases-loop-post g l = length l.posts.items
