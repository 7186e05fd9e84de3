use Rattle.std.proofs.Common.{◌≡◌, drop}
use Rattle.fs_graph.specs.Facts.{path_of}
use Rattle.tree_model.specs.Cuts.{has_feature}
use Rattle.relation_fit.proofs.list.is_among.Given as goal

abbrev pub invariant-loop-k : goal.invariant-loop-k
invariant-loop-k l = has_feature (path_of l.feats) l.feat.0 ≡ has_feature (path_of (drop l.k l.feats)) l.feat.0
