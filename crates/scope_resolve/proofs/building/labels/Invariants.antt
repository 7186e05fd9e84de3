use Rattle.std.proofs.Common.{◌≡◌, map, take}
use Rattle.scope_resolve.specs.Inner.Building.{label_from}
use Rattle.mrs_model.specs.Views.{predication_of}
use Rattle.scope_resolve.proofs.building.labels.Given as goal

abbrev pub invariant-loop-ep : goal.invariant-loop-ep
invariant-loop-ep l = l.out.items ≡ map (label_from l.numbers) (map predication_of (take l.ep-index l.eps))
