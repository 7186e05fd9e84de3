use Rattle.std.proofs.Common.{◌≡◌, ◌<◌, ◌+◌, ℕ, false, get_or}
use Rattle.std.specs.Ordering.{is_lt}
use Rattle.forest_unpack.specs.declared.counted.CountedTree.{CountedTree}
use Rattle.derivation.specs.Order.{compare_trees}
use Rattle.forest_unpack.specs.Counted.{derivation_in}
use Rattle.forest_unpack.proofs.keeping.is_sorted.Given as goal

abbrev pub invariant-loop-i : goal.invariant-loop-i
invariant-loop-i l =
    (k : ℕ) (d : CountedTree) → k + 1 < l.i → is_lt (compare_trees (derivation_in (get_or l.trees (k + 1) d)) (derivation_in (get_or l.trees k d))) ≡ false
