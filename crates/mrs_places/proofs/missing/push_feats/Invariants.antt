use Rattle.std.proofs.Common.{◌≡◌, ◌++◌, map, take}
use Rattle.std.specs.String.{string_bytes}
use Rattle.mrs_places.specs.Inner.Walked.{names_at}
use Rattle.mrs_places.proofs.missing.push_feats.Given as goal

abbrev pub invariant-loop-feat : goal.invariant-loop-feat
invariant-loop-feat l = map string_bytes l.path.items ≡ map string_bytes l.initial.path.items ++ names_at (take l.feat-index l.feats)
