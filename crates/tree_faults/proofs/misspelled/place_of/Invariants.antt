use Rattle.std.proofs.Common.{◌≡◌, take}
use Rattle.tree_faults.specs.Inner.Chains.{place_below}
use Rattle.tree_faults.specs.Inner.Walks.{open_of}
use Rattle.tree_faults.proofs.misspelled.place_of.Given as goal

abbrev pub invariant-loop-above : goal.invariant-loop-above
invariant-loop-above l = l.place.items ≡ place_below open_of (take l.above-index l.waiting)
