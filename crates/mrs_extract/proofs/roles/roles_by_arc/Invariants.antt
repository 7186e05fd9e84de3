use Rattle.std.proofs.Common.{◌≡◌, map, take}
use Rattle.std.specs.List.{AllZip}
use Rattle.mrs_model.specs.Views.{argument_of}
use Rattle.mrs_places.specs.Paths.{paths_of}
use Rattle.mrs_extract.specs.Extraction.{all_noted, IsArgumentAt}
use Rattle.mrs_extract.specs.Inner.Made.{roles_among, nodes_among}
use Rattle.mrs_extract.proofs.roles.roles_by_arc.Given as goal

abbrev pub invariant-loop-k : goal.invariant-loop-k
invariant-loop-k l = record {
  size : l.numbers.size ≡ l.fn.numbers.size;
  nodes : l.numbers.nodes ≡ all_noted l.fn.numbers.nodes (nodes_among l.graph l.types (paths_of l.paths) (take l.k l.arcs));
  each : AllZip (IsArgumentAt l.graph l.types (paths_of l.paths) l.numbers.nodes) (roles_among (paths_of l.paths) (take l.k l.arcs)) (map argument_of l.roles.items);
}
