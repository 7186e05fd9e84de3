use Rattle.std.proofs.Common.{◌≡◌, map, take}
use Rattle.mrs_model.specs.Views.{predication_of}
use Rattle.mrs_places.specs.Paths.{paths_of}
use Rattle.mrs_places.specs.Places.{pairs_of}
use Rattle.mrs_extract.specs.Extraction.{IsPredicationAt, predication_nodes}
use Rattle.mrs_extract.specs.Inner.Made.{AreMade}
use Rattle.mrs_extract.proofs.predications.predications.Given as goal

abbrev pub invariant-loop-k : goal.invariant-loop-k
invariant-loop-k l = record {
  size : l.numbers.size ≡ l.fn.numbers.size;
  made : AreMade (IsPredicationAt l.graph l.types (paths_of l.paths)) (predication_nodes l.graph l.types (paths_of l.paths)) l.fn.numbers.nodes l.numbers.nodes (take l.k (pairs_of l.elements)) (map predication_of l.eps.items);
}
