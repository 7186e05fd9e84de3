use Rattle.std.proofs.Common.{◌≡◌, ◌<◌, drop}
use Rattle.fs_graph.specs.Facts.{path_of}
use Rattle.forced_types.specs.Inner.Sound.{size_of}
use Rattle.forced_types.specs.Inner.Closed.{walk_in}
use Rattle.forced_types.proofs.nodes.Nodes.follow.Given as goal

abbrev pub invariant-loop-feat : goal.invariant-loop-feat
invariant-loop-feat l = record {
  inside : l.at < size_of l.self;
  walk : walk_in l.self l.n (path_of l.path) ≡ walk_in l.self l.at (drop l.feat-index (path_of l.path));
}
