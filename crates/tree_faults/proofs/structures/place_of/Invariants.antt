use Rattle.std.proofs.Common.{◌≡◌, take}
use Rattle.tree_faults.specs.Inner.Building.{place_below}
use Rattle.tree_faults.proofs.structures.place_of.Given as goal

abbrev pub invariant-loop-above : goal.invariant-loop-above
invariant-loop-above l = l.place.items ≡ place_below (take l.above-index l.waiting)
