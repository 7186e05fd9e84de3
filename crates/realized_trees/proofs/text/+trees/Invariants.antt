use Rattle.std.proofs.Common.{◌+◌, ◌≡◌, ◌++◌, map, take}
use Rattle.derivation.specs.Views.{derivation_of, in_order}
use Rattle.derivation.proofs.Weights.{weight, weight_of}
use Rattle.generate_model.specs.Sentences.{yields}
use Rattle.realized_trees.specs.TreeInner.{said, spaced}
use Rattle.realized_trees.proofs.text.+trees.Given as goal

abbrev pub decreases-put_tree : goal.decreases-put_tree
decreases-put_tree l = weight (derivation_of l.tree.now)

abbrev pub decreases-put_trees : goal.decreases-put_trees
decreases-put_trees l = weight_of l.trees.now + 1

abbrev pub invariant-put_trees-loop-tree : goal.invariant-put_trees-loop-tree
invariant-put_trees-loop-tree l = said l.line ≡ said l.initial.line ++ spaced (yields (in_order (map derivation_of (take l.tree-index l.trees))))
