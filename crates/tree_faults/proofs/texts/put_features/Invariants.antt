use Rattle.std.proofs.Common.{◌≡◌, ◌++◌, map, take, string_bytes}
use Rattle.std.specs.List.{flat_map}
use Rattle.fs_graph.specs.Facts.{path_of}
use Rattle.fs_graph.specs.Text.{feature_text}
use Rattle.tree_faults.proofs.texts.put_features.Given as goal

abbrev pub invariant-loop-feat : goal.invariant-loop-feat
invariant-loop-feat l = l.into.items ≡ l.initial.into.items ++ flat_map (feature_text (map string_bytes l.feats)) (path_of (take l.feat-index l.path))
