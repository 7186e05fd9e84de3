use Rattle.std.proofs.Common.{◌≡◌, ◌++◌, map, take}
use Rattle.std.specs.String.{string_bytes}
use Rattle.mrs_places.specs.Paths.{feature_of}
use Rattle.mrs_places.specs.Looking.{names}
use Rattle.mrs_places.proofs.missing.push_path.Given as goal

abbrev pub invariant-loop-feat : goal.invariant-loop-feat
invariant-loop-feat l = map string_bytes l.path.items ≡ map string_bytes l.initial.path.items ++ names (map feature_of (take l.feat-index l.feats))
