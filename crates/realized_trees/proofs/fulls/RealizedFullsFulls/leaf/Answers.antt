use Rattle.book_signs.specs.Trees.{signs_of}
use Rattle.generated_leaves.specs.Views.{leaf_seen}
use Rattle.realized_trees.proofs.Reaching.{named_below}
use Rattle.realized_trees.proofs.fulls.RealizedFullsFulls.leaf.Goals as goal

pub bounds-self-name : goal.bounds-self-name
bounds-self-name c =
    let t = c.args.self.now.signs.now in
    named_below (signs_of t) (leaf_seen t) c.args.self.now.leaves.now c.args.name c.requires
