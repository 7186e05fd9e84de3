use Rattle.std.proofs.Common.{ℕ, ◌≡◌, ◌<◌, true}
use Rattle.type_hierarchy.specs.Table.{is_below}
use Rattle.fs_model.specs.Claims.{Has}
use Rattle.forced_types.proofs.closed_types.is_raised_from.Given as goal

abbrev pub invariant-loop-above : goal.invariant-loop-above
invariant-loop-above l = (u : ℕ) → u < l.above → is_below l.types l.ty u ≡ true → Has u l.list
