use Rattle.std.proofs.Common.{◌≡◌, ◌<◌, ◌++◌, map, drop}
use Rattle.std.specs.Prelude.{All}
use Rattle.type_hierarchy.specs.Table.{count_of}
use Rattle.mrs_places.specs.Paths.{paths_of}
use Rattle.mrs_places.specs.Inner.Walked.{nodes_of}
use Rattle.generate_model.specs.Inner.Reading.{types_in}
use Rattle.generate_model.proofs.relations.types_of.Given as goal

abbrev pub invariant-loop-cell : goal.invariant-loop-cell
invariant-loop-cell l = record {
  inside : All (λ t. t.0 < count_of l.types) l.found.items;
  same : map (λ t. t.0) l.found.items ++ types_in l.graph (paths_of l.paths) (nodes_of (drop l.cell-index l.cells)) ≡ types_in l.graph (paths_of l.paths) (nodes_of l.cells);
}
