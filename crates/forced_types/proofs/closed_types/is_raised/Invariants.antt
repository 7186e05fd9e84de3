use Rattle.std.proofs.Common.{ℕ, ◌≡◌, ◌<◌, true, slice_index_or}
use Rattle.type_hierarchy.specs.Table.{count_of, is_below}
use Rattle.fs_model.specs.Claims.{Has}
use Rattle.forced_types.proofs.closed_types.is_raised.Given as goal

abbrev pub invariant-loop-i : goal.invariant-loop-i
invariant-loop-i l = (k : ℕ) → k < l.i → (u : ℕ) → u < count_of l.types → is_below l.types (slice_index_or l.list k 0) u ≡ true → Has u l.list
