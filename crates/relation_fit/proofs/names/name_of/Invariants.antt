use Rattle.std.proofs.Common.{◌≡◌, take}
use Rattle.std.specs.String.{string_bytes}
use Rattle.mrs_places.specs.Paths.{paths_of}
use Rattle.mrs_extract.specs.Inner.Routes.{joined, numbers_of}
use Rattle.relation_fit.proofs.names.name_of.Given as goal

abbrev pub invariant-loop-k : goal.invariant-loop-k
invariant-loop-k l = string_bytes l.name ≡ joined (paths_of l.paths) (numbers_of (take l.k l.path))
