use Rattle.std.proofs.Common.{arith}
use Rattle.forest_unpack.proofs.Sorting.{sorted_trees}
use Rattle.forest_unpack.proofs.keeping.is_sorted.Goals as goal

pub returns : goal.returns
returns c = λ h. sorted_trees c.args.trees.now (λ k d low. c.loop-i.invariant k d (omega (arith, low, c.loop-i-test.false)))
