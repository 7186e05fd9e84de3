use Rattle.std.proofs.Common.{◌≡◌, map, take}
use Rattle.scope_resolve.proofs.Owning.{body_of}
use Rattle.scope_resolve.proofs.tables.bodies.Given as goal

abbrev pub invariant-loop-k : goal.invariant-loop-k
invariant-loop-k l = l.out.items ≡ map body_of (take l.k l.quantifiers)
