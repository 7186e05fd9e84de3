use Rattle.std.proofs.Common.{◌≡◌, map, take}
use Rattle.mrs_model.specs.Views.{icon_of}
use Rattle.mrs_places.specs.Paths.{paths_of}
use Rattle.mrs_places.specs.Places.{pairs_of}
use Rattle.mrs_extract.specs.Extraction.{IsConstraintAt, constraint_nodes}
use Rattle.mrs_extract.specs.Inner.Made.{AreMade}
use Rattle.mrs_extract.proofs.constraints.individual_constraints.Given as goal

abbrev pub invariant-loop-k : goal.invariant-loop-k
invariant-loop-k l = record {
  size : l.numbers.size ≡ l.fn.numbers.size;
  made : AreMade (IsConstraintAt l.graph l.types (paths_of l.paths)) (constraint_nodes) l.fn.numbers.nodes l.numbers.nodes (take l.k (pairs_of l.elements)) (map icon_of l.icons.items);
}
