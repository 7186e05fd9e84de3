use Rattle.std.proofs.Common.{map, take}
use Rattle.std.specs.List.{AllZip}
use Rattle.mrs_model.specs.Views.{variable_of}
use Rattle.mrs_places.specs.Paths.{paths_of}
use Rattle.mrs_extract.specs.Extraction.{IsVariableAt}
use Rattle.mrs_extract.proofs.variables.variables.Given as goal

abbrev pub invariant-loop-k : goal.invariant-loop-k
invariant-loop-k l = AllZip (IsVariableAt l.graph l.types (paths_of l.paths)) (take l.k l.nodes) (map variable_of l.vars.items)
