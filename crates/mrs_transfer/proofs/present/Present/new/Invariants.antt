use Rattle.std.specs.Prelude.{map, take}
use Rattle.mrs_model.specs.Views.{predication_of}
use Rattle.mrs_transfer.specs.Inner.Present.{ArePresent}
use Rattle.mrs_transfer.proofs.present.Present.new.Given as goal

abbrev pub invariant-loop-ep : goal.invariant-loop-ep
invariant-loop-ep l = ArePresent l.places.items (map predication_of (take l.ep-index l.eps))
