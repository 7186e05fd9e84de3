use Rattle.std.proofs.Common.{◌≡◌, map, drop}
use Rattle.fs_graph.specs.Facts.{path_of}
use Rattle.mrs_places.specs.Paths.{feature_of}
use Rattle.relation_fit.specs.Lists.{numbers}
use Rattle.relation_fit.proofs.Features.{behind}
use Rattle.relation_fit.proofs.list.known.Given as goal

abbrev pub invariant-loop-k : goal.invariant-loop-k
invariant-loop-k l = behind (path_of l.path.items) (numbers (map feature_of (drop l.k l.feats))) ≡ numbers (map feature_of l.feats)
