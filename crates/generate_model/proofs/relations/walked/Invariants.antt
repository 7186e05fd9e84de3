use Rattle.std.proofs.Common.{◌≡◌, ◌<◌, length, option_map}
use Rattle.std.specs.Prelude.{All}
use Rattle.mrs_places.specs.Paths.{paths_of}
use Rattle.mrs_places.specs.Inner.Walked.{nodes_of, IsPassed}
use Rattle.generate_model.proofs.relations.walked.Given as goal

abbrev pub invariant-loop-turn : goal.invariant-loop-turn
invariant-loop-turn l = record {
  inside : l.node.0 < length l.graph.types;
  all_in : All (λ n. n.0 < length l.graph.types) l.cells.items;
  count : length l.cells.items ≡ l.turn;
  passed : IsPassed l.graph l.types (paths_of l.paths) (option_map (λ n. n.0) l.fn.last) l.fn.start.0 (nodes_of l.cells.items) l.node.0;
}
