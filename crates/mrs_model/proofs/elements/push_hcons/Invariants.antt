use Rattle.std.proofs.Common.{◌≡◌, ◌++◌, map, take}
use Rattle.mrs_model.specs.Inner.Items.{of_hcon}
use Rattle.mrs_model.specs.Inner.State.{elements_of}
use Rattle.mrs_model.proofs.elements.push_hcons.Given as goal

abbrev pub invariant-loop-hcon : goal.invariant-loop-hcon
invariant-loop-hcon l = elements_of l.into.items ≡ elements_of l.fn.into.items ++ map of_hcon (take l.hcon-index l.hcons)
