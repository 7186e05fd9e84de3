use Rattle.std.proofs.Common.{◌≡◌, ◌≤◌, length, take}
use Rattle.std.specs.Prelude.{reverse}
use Rattle.scope_resolve.specs.Inner.Ways.{is_by_bodies}
use Rattle.scope_resolve.proofs.trail.Trail.is_by_bodies.Given as goal

abbrev pub invariant-loop-left : goal.invariant-loop-left
invariant-loop-left l = record {
  within : l.left ≤ length l.self.plugs.items;
  scan : is_by_bodies l.net.owner.items l.net.is_body.items l.above l.label (reverse l.self.plugs.items) ≡ is_by_bodies l.net.owner.items l.net.is_body.items l.above l.at (reverse (take l.left l.self.plugs.items));
}

abbrev pub decreases-loop-left : goal.decreases-loop-left
decreases-loop-left l = l.left
