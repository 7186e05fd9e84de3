use Rattle.std.proofs.Common.{◌≡◌, map, take}
use Rattle.scope_resolve.proofs.Owning.{hole_of}
use Rattle.scope_resolve.proofs.tables.holes.Given as goal

abbrev pub invariant-loop-k : goal.invariant-loop-k
invariant-loop-k l = l.out.items ≡ map hole_of (take l.k l.openings)
