use Rattle.std.proofs.Common.{◌≡◌, take}
use Rattle.mrs_model.specs.Inner.State.{elements_of}
use Rattle.mrs_model.proofs.elements.counted.Given as goal

abbrev pub invariant-loop-item : goal.invariant-loop-item
invariant-loop-item l = elements_of l.out.items ≡ elements_of (take l.item-index l.items)
