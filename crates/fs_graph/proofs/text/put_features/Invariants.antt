use Rattle.std.proofs.Common.{◌≡◌, ◌++◌, map, take}
use Rattle.std.specs.List.{flat_map}
use Rattle.std.specs.String.{string_bytes}
use Rattle.fs_graph.specs.Facts.{path_of}
use Rattle.fs_graph.specs.Text.{feature_text}
use Rattle.fs_graph.proofs.text.put_features.Given as goal

abbrev pub invariant-loop-feat : goal.invariant-loop-feat
invariant-loop-feat l = l.into.items ≡ l.initial.into.items ++ flat_map (feature_text (map string_bytes l.feats)) (take l.feat-index (path_of l.path))
