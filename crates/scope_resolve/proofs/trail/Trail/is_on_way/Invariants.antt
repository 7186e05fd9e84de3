use Rattle.std.proofs.Common.{◌≡◌, ◌≤◌, length, take}
use Rattle.std.specs.Prelude.{reverse}
use Rattle.scope_resolve.specs.Inner.Ways.{is_on_way}
use Rattle.scope_resolve.proofs.trail.Trail.is_on_way.Given as goal

abbrev pub invariant-loop-left : goal.invariant-loop-left
invariant-loop-left l = record {
  within : l.left ≤ length l.self.plugs.items;
  scan : is_on_way l.net.owner.items l.hole l.label (reverse l.self.plugs.items) ≡ is_on_way l.net.owner.items l.hole l.at (reverse (take l.left l.self.plugs.items));
}

abbrev pub decreases-loop-left : goal.decreases-loop-left
decreases-loop-left l = l.left
