use Rattle.std.proofs.Common.{◌≡◌, drop}
use Rattle.mrs_places.specs.Paths.{paths_of}
use Rattle.mrs_extract.specs.Extraction.{sort_at}
use Rattle.mrs_extract.proofs.variables.sort_of.Given as goal

abbrev pub invariant-loop-k : goal.invariant-loop-k
invariant-loop-k l = sort_at l.types l.t.0 (drop l.k (paths_of l.paths).sorts) ≡ sort_at l.types l.t.0 (paths_of l.paths).sorts
