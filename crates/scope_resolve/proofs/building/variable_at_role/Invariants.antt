use Rattle.std.proofs.Common.{◌≡◌, map, drop}
use Rattle.mrs_model.specs.Views.{argument_of}
use Rattle.scope_model.specs.Frames.{at_role}
use Rattle.scope_resolve.proofs.building.variable_at_role.Given as goal

abbrev pub invariant-loop-role : goal.invariant-loop-role
invariant-loop-role l = at_role l.name (map argument_of l.roles) ≡ at_role l.name (map argument_of (drop l.role-index l.roles))
