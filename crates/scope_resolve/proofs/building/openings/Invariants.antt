use Rattle.std.proofs.Common.{◌≡◌, map, take}
use Rattle.std.specs.List.{flat_map}
use Rattle.mrs_model.specs.Views.{variable_of, predication_of}
use Rattle.scope_resolve.specs.Inner.Building.{openings_from}
use Rattle.scope_resolve.proofs.building.openings.Given as goal

abbrev pub invariant-loop-ep : goal.invariant-loop-ep
invariant-loop-ep l = l.out.items ≡ flat_map (openings_from (map variable_of l.vars) l.numbers) (map predication_of (take l.ep-index l.eps))
