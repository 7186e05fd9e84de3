use Rattle.std.proofs.Common.{◌≡◌, map, take, false}
use Rattle.mrs_places.specs.Paths.{feature_of}
use Rattle.mrs_extract.specs.Extraction.{is_among}
use Rattle.mrs_extract.proofs.roles.is_among.Given as goal

abbrev pub invariant-loop-feat : goal.invariant-loop-feat
invariant-loop-feat l = is_among (map feature_of (take l.feat-index l.feats)) l.f.0 ≡ false
