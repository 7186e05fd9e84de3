use Rattle.std.proofs.Common.{◌≡◌, ◌<◌, Some, length}
use Rattle.fs_graph.specs.Facts.{path_of}
use Rattle.forced_types.specs.Inner.Sound.{size_of}
use Rattle.forced_types.specs.Inner.Closed.{walk_in, IsFlat}
use Rattle.forced_types.proofs.SearchLemmas.{IsOnTheWay}
use Rattle.forced_types.proofs.nodes.Nodes.path_to.Given as goal

abbrev pub invariant-loop-length : goal.invariant-loop-length
invariant-loop-length l = record {
  inside : l.at < size_of l.self;
  walk : walk_in l.self 0 (path_of l.path.items) ≡ Some l.at;
  size : length (path_of l.path.items) ≡ l.length;
  way : (flat : IsFlat l.self) → IsOnTheWay l.given l.self flat l.aim (path_of l.path.items);
}
