use Rattle.std.proofs.Common.{◌≡◌, map, drop}
use Rattle.mrs_model.specs.Views.{argument_of}
use Rattle.scope_resolve.specs.Inner.Building.{has_number}
use Rattle.scope_resolve.proofs.building.has_number.Given as goal

abbrev pub invariant-loop-role : goal.invariant-loop-role
invariant-loop-role l = has_number l.numbers l.x (map argument_of l.roles) ≡ has_number l.numbers l.x (map argument_of (drop l.role-index l.roles))
