use Rattle.std.proofs.Common.{◌≡◌, ◌+◌, ◌*◌, length, drop}
use Rattle.std.specs.Cmp.Lexicographic.{slice_cmp}
use Rattle.std.specs.Ordering.{on}
use Rattle.derivation.specs.Views.{derivation_of}
use Rattle.derivation.specs.Order.{compare_trees}
use Rattle.derivation.proofs.Weights.{weight, weight_of}
use Rattle.derivation.proofs.order.+order.Given as goal

abbrev pub decreases-compare_by : goal.decreases-compare_by
decreases-compare_by l = 2 * weight (derivation_of l.tree.now)

abbrev pub decreases-compare_daughters : goal.decreases-compare_daughters
decreases-compare_daughters l = 2 * weight_of l.daughters.now + 3

abbrev pub decreases-compare_in_turn : goal.decreases-compare_in_turn
decreases-compare_in_turn l = 2 * weight_of l.trees.now + 1

abbrev pub invariant-compare_in_turn-loop-tree : goal.invariant-compare_in_turn-loop-tree
invariant-compare_in_turn-loop-tree l =
    slice_cmp (on derivation_of compare_trees) l.trees l.others
    ≡ slice_cmp (on derivation_of compare_trees) (drop (length l.yielded) l.trees) (drop (length l.yielded) l.others)
