use Rattle.std.proofs.Common.{ℕ, ◌≡◌, ◌<◌, None}
use Rattle.type_hierarchy.specs.Table.{meet_of}
use Rattle.fs_model.specs.Claims.{Has}
use Rattle.forced_types.proofs.closed_types.least_apart.Given as goal

abbrev pub invariant-loop-first : goal.invariant-loop-first
invariant-loop-first l = (t : ℕ) → t < l.first → Has t l.list → (u : ℕ) → Has u l.list → meet_of l.given.system.now.types t u ≡ None → ⊥
