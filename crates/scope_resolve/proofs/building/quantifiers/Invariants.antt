use Rattle.std.proofs.Common.{◌≡◌, map, take}
use Rattle.std.specs.List.{flat_map}
use Rattle.mrs_model.specs.Views.{variable_of, predication_of}
use Rattle.scope_model.specs.Frames.{listed}
use Rattle.scope_resolve.specs.Inner.Building.{quantifier_from}
use Rattle.scope_resolve.proofs.building.quantifiers.Given as goal

abbrev pub invariant-loop-ep : goal.invariant-loop-ep
invariant-loop-ep l = l.out.items ≡ flat_map (λ e. listed (quantifier_from (map variable_of l.vars) l.numbers e)) (map predication_of (take l.ep-index l.eps))
