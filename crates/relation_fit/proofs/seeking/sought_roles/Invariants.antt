use Rattle.std.proofs.Common.{map}
use Rattle.std.specs.Prelude.{All}
use Rattle.mrs_model.specs.Views.{argument_of, variable_of}
use Rattle.mrs_places.specs.Paths.{paths_of}
use Rattle.relation_fit.specs.Sought.{IsSoughtRole}
use Rattle.relation_fit.proofs.seeking.sought_roles.Given as goal

abbrev pub invariant-loop-k : goal.invariant-loop-k
invariant-loop-k l = All (IsSoughtRole l.types (paths_of l.paths) (map variable_of l.vars) (map argument_of l.roles)) l.found.items
