use Rattle.std.proofs.Common.{◌≡◌, ◌+◌, ◌++◌, take, length}
use Rattle.fs_graph.specs.Facts.{path_of}
use Rattle.forced_types.specs.Inner.Sound.{AreSound, KeepPaths, IsEnd, most_of, path_in}
use Rattle.forced_types.proofs.nodes.Nodes.reach.Given as goal

abbrev pub invariant-loop-feat : goal.invariant-loop-feat
invariant-loop-feat l = record {
  sound : AreSound l.given l.self;
  keeps : KeepPaths l.fn.self l.self;
  end : IsEnd l.given l.self (path_in l.fn.self l.n ++ take l.feat-index (path_of l.path)) l.at;
  left : l.left + (length (path_in l.fn.self l.n) + l.feat-index) ≡ most_of l.given;
}
