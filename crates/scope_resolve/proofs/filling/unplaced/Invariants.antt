use Rattle.std.proofs.Common.{ℕ, ◌≡◌, true, false, take}
use Rattle.std.specs.Prelude.{Contains, slice_index_or}
use Rattle.scope_resolve.proofs.filling.unplaced.Given as goal

abbrev pub invariant-loop-k : goal.invariant-loop-k
invariant-loop-k l = (v : ℕ) → Contains (take l.k l.net.labels.items) v → slice_index_or l.ways.placed.items v false ≡ true
