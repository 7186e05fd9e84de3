use Rattle.std.proofs.Common.{◌≡◌, ◌<◌, length, map, drop, Some}
use Rattle.mrs_places.specs.Paths.{feature_of}
use Rattle.mrs_places.specs.Looking.{follow}
use Rattle.generate_model.proofs.relations.follow.Given as goal

abbrev pub invariant-loop-k : goal.invariant-loop-k
invariant-loop-k l = record {
  inside : l.node.0 < length l.graph.types;
  same : follow l.graph (map feature_of l.path) (Some l.fn.from.0) ≡ follow l.graph (map feature_of (drop l.k l.path)) (Some l.node.0);
}
