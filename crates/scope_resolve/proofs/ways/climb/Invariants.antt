use Rattle.std.proofs.Common.{◌≤◌, length, take}
use Rattle.std.specs.Prelude.{reverse}
use Rattle.scope_resolve.specs.Inner.Filling.{path}
use Rattle.scope_resolve.proofs.Seeing.{AreClimbed}
use Rattle.scope_resolve.proofs.ways.climb.Given as goal

abbrev pub invariant-loop-left : goal.invariant-loop-left
invariant-loop-left l = record {
  within : l.left ≤ length l.trail.plugs.items;
  are : AreClimbed l.net.owner.items l.net.is_body.items (path l.trail) (reverse (take l.left l.trail.plugs.items)) l.fn.below.items l.fn.under.items l.fn.chain.items l.below.items l.under.items l.chain.items;
}

abbrev pub decreases-loop-left : goal.decreases-loop-left
decreases-loop-left l = l.left
