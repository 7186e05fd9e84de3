use Rattle.std.proofs.Common.{ℕ, ◌<◌, slice_index_or}
use Rattle.type_hierarchy.specs.Inner.Ranks.{rank_of}
use Rattle.type_hierarchy.proofs.faults.have_ranks_below.Given as goal

abbrev pub invariant-loop-t : goal.invariant-loop-t
invariant-loop-t l = (i : ℕ) → i < l.t-index → rank_of l.ranks (slice_index_or l.types i 0) < l.bound
