use Rattle.std.proofs.Common.{◌≡◌, ◌++◌, map, take}
use Rattle.mrs_model.specs.Inner.Items.{of_ep}
use Rattle.mrs_model.specs.Inner.State.{elements_of}
use Rattle.mrs_model.proofs.elements.push_eps.Given as goal

abbrev pub invariant-loop-ep : goal.invariant-loop-ep
invariant-loop-ep l = elements_of l.into.items ≡ elements_of l.fn.into.items ++ map of_ep (take l.ep-index l.eps)
