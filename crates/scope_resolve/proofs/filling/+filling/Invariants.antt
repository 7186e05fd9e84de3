use Rattle.std.proofs.Common.{◌≡◌, ◌≤◌, ◌+◌, ◌*◌, ◌-◌, true, take, drop, map}
use Rattle.scope_model.specs.Answers.{plugged_of}
use Rattle.scope_resolve.specs.Inner.Nets.{frame_in}
use Rattle.scope_resolve.specs.Inner.Ways.{left_in}
use Rattle.scope_resolve.specs.Inner.Filling.{AreFound, HasOneOf, IsKept, path, state_of}
use Rattle.scope_resolve.proofs.filling.+filling.Given as goal

abbrev pub decreases-fill : goal.decreases-fill
decreases-fill l = 4 * left_in l.net.now.labels.items l.trail.now.root (path l.trail.now) + 3

abbrev pub decreases-fill_open : goal.decreases-fill_open
decreases-fill_open l = 4 * left_in l.net.now.labels.items l.trail.now.root (path l.trail.now) + 2

abbrev pub decreases-fill_each : goal.decreases-fill_each
decreases-fill_each l = 4 * left_in l.net.now.labels.items l.trail.now.root (path l.trail.now) + 1

abbrev pub decreases-fill_with : goal.decreases-fill_with
decreases-fill_with l = 4 * left_in l.net.now.labels.items l.trail.now.root (path l.trail.now)

abbrev pub invariant-fill_each-loop-k : goal.invariant-fill_each-loop-k
invariant-fill_each-loop-k l = record {
  from : l.turn.from ≤ l.k;
  kept : IsKept l.trail l.fn.trail;
  plan : l.search.plan ≡ l.fn.search.plan;
  stack : l.search.stack.items ≡ l.fn.search.stack.items;
  found : AreFound (frame_in l.net.parts) (HasOneOf (state_of l.fn.trail) l.turn.hole (take (l.k - l.turn.from) (drop l.turn.from l.fn.search.stack.items))) l.max true (map plugged_of l.fn.out.items) (map plugged_of l.out.items);
}
