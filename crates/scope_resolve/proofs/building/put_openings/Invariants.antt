use Rattle.std.proofs.Common.{◌≡◌, ◌++◌, map, take}
use Rattle.mrs_model.specs.Views.{variable_of, argument_of}
use Rattle.scope_resolve.specs.Inner.Building.{openings_with}
use Rattle.scope_resolve.proofs.building.put_openings.Given as goal

abbrev pub invariant-loop-role : goal.invariant-loop-role
invariant-loop-role l = l.out.items ≡ l.fn.out.items ++ openings_with (map variable_of l.vars) l.numbers l.label (map argument_of (take l.role-index l.roles))
