use Rattle.std.proofs.Common.{ℕ, ◌≡◌, length, get_or, true, false, take}
use Rattle.std.specs.Prelude.{Contains, ◌↔◌}
use Rattle.scope_resolve.proofs.tables.marks.Given as goal

abbrev pub invariant-loop-k : goal.invariant-loop-k
invariant-loop-k l = record {
  size : length l.out.items ≡ l.room;
  known : (v : ℕ) → (get_or l.out.items v false ≡ true) ↔ Contains (take l.k l.numbers) v;
}
