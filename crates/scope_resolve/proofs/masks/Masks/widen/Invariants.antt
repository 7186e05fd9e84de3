use Rattle.std.proofs.Common.{ℕ, ◌≡◌, ◌<◌, length, true}
use Rattle.scope_resolve.specs.Inner.Masks.{has, set_at}
use Rattle.scope_resolve.proofs.masks.Masks.widen.Given as goal

abbrev pub invariant-loop-k : goal.invariant-loop-k
invariant-loop-k l = record {
  size : length l.self.sets.items ≡ length l.fn.self.sets.items;
  each : (v place : ℕ) → v < l.k → has (set_at l.self.sets.items v) place ≡ true;
}
