use Rattle.std.proofs.Common.{◌≡◌, ◌++◌, map, replicate}
use Rattle.std.specs.String.{string_bytes}
use Rattle.mrs_places.proofs.missing.push_rests.Given as goal

abbrev pub invariant-loop-k : goal.invariant-loop-k
invariant-loop-k l = map string_bytes l.path.items ≡ map string_bytes l.initial.path.items ++ replicate l.k (string_bytes l.rest.name)
