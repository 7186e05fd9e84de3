use Rattle.std.proofs.Common.{map, take}
use Rattle.std.specs.List.{AllZip}
use Rattle.mrs_model.specs.Views.{predication_of, variable_of}
use Rattle.mrs_places.specs.Paths.{paths_of}
use Rattle.relation_fit.specs.Sought.{IsSoughtEp}
use Rattle.relation_fit.proofs.seeking.sought_of.Given as goal

abbrev pub invariant-loop-k : goal.invariant-loop-k
invariant-loop-k l = AllZip (IsSoughtEp l.types (paths_of l.paths) (map variable_of l.mrs.vars.items)) (map predication_of (take l.k l.mrs.eps.items)) l.eps.items
