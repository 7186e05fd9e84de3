use Rattle.std.specs.Prelude.{All}
use Rattle.mrs_model.specs.Views.{variable_of}
use Rattle.mrs_places.specs.Paths.{paths_of}
use Rattle.relation_fit.specs.Sought.{IsSoughtProp}
use Rattle.relation_fit.proofs.seeking.sought_props.Given as goal

abbrev pub invariant-loop-k : goal.invariant-loop-k
invariant-loop-k l = All (IsSoughtProp l.types (paths_of l.paths) (variable_of l.var)) l.props.items
