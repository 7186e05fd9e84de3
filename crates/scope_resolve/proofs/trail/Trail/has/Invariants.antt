use Rattle.std.proofs.Common.{◌≡◌, ◌≤◌, length, take}
use Rattle.std.specs.Prelude.{reverse}
use Rattle.scope_resolve.specs.Inner.Ways.{placed_in}
use Rattle.scope_resolve.proofs.trail.Trail.has.Given as goal

abbrev pub invariant-loop-left : goal.invariant-loop-left
invariant-loop-left l = record {
  within : l.left ≤ length l.self.plugs.items;
  scan : placed_in l.label (reverse l.self.plugs.items) ≡ placed_in l.label (reverse (take l.left l.self.plugs.items));
}

abbrev pub decreases-loop-left : goal.decreases-loop-left
decreases-loop-left l = l.left
