use Rattle.std.proofs.Common.{ℕ, ◌<◌, take}
use Rattle.std.specs.Prelude.{Contains}
use Rattle.scope_resolve.proofs.tables.room.Given as goal

abbrev pub invariant-loop-k : goal.invariant-loop-k
invariant-loop-k l = (v : ℕ) → Contains (take l.k l.numbers) v → v < l.room
