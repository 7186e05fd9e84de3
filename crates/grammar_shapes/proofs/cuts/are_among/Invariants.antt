use Rattle.std.proofs.Common.{◌≡◌, drop}
use Rattle.std.specs.List.{list_all}
use Rattle.fs_graph.specs.Facts.{path_of}
use Rattle.tree_model.specs.Cuts.{has_feature}
use Rattle.grammar_shapes.proofs.cuts.are_among.Given as goal

abbrev pub invariant-loop-feat : goal.invariant-loop-feat
invariant-loop-feat l = list_all (has_feature (path_of l.others)) (path_of (drop l.feat-index l.feats)) ≡ list_all (has_feature (path_of l.others)) (path_of l.feats)
