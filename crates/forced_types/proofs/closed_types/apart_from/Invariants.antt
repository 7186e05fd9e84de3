use Rattle.std.proofs.Common.{ℕ, ◌≡◌, ◌<◌, None}
use Rattle.type_hierarchy.specs.Table.{meet_of}
use Rattle.fs_model.specs.Claims.{Has}
use Rattle.forced_types.proofs.closed_types.apart_from.Given as goal

abbrev pub invariant-loop-other : goal.invariant-loop-other
invariant-loop-other l = (u : ℕ) → u < l.other → Has u l.list → meet_of l.given.system.now.types l.ty u ≡ None → ⊥
