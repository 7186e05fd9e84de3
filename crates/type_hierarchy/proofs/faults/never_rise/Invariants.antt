use Rattle.std.proofs.Common.{ℕ, ◌<◌, ◌≤◌, slice_index_or, []}
use Rattle.type_hierarchy.specs.Order.{Has}
use Rattle.type_hierarchy.specs.Inner.Reach.{lists}
use Rattle.type_hierarchy.specs.Inner.Ranks.{rank_of}
use Rattle.type_hierarchy.proofs.faults.never_rise.Given as goal

abbrev pub invariant-loop-t : goal.invariant-loop-t
invariant-loop-t l = (t p : ℕ) → t < l.t → Has p (slice_index_or (lists l.parents) t []) → rank_of l.ranks p ≤ rank_of l.ranks t
