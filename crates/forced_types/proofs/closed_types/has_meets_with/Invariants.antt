use Rattle.std.proofs.Common.{ℕ, ◌≡◌, ◌<◌, Some, slice_index_or}
use Rattle.type_hierarchy.specs.Table.{meet_of}
use Rattle.fs_model.specs.Claims.{Has}
use Rattle.forced_types.proofs.closed_types.has_meets_with.Given as goal

abbrev pub invariant-loop-i : goal.invariant-loop-i
invariant-loop-i l = (k : ℕ) → k < l.i → (m : ℕ) → meet_of l.given.system.now.types l.ty (slice_index_or l.list k 0) ≡ Some m → Has m l.list
