use Rattle.std.proofs.Common.{map}
use Rattle.mrs_model.specs.Views.{meaning_of}
use Rattle.mrs_places.specs.Paths.{paths_of}
use Rattle.book_signs.specs.Trees.{signs_of}
use Rattle.rule_trees.specs.Mothers.{view_in}
use Rattle.generated_leaves.specs.Views.{leaf_seen}
use Rattle.realized_trees.specs.Wholes.{input_of, wholes_of, IsLeafAt}
use Rattle.realized_trees.specs.Sieves.{MayDrop}
use Rattle.realized_trees.proofs.Reached.{reached_back}
use Rattle.realized_trees.proofs.pruned_fulls.PrunedFullsFulls.accepts.Goals as goal

pub accepts-requires : goal.accepts-requires
accepts-requires c =
    let s = c.args.self.now in
    let fs = s.fulls.now in
    let t = fs.signs.now in
    let p = paths_of fs.paths.now in
    let w = wholes_of (signs_of t) (input_of t p (meaning_of fs.mrs.now)) fs.bound.now (map (leaf_seen t) fs.leaves.now) in
    let dropped = MayDrop t p s.sieve.now in
    reached_back w dropped (IsLeafAt (signs_of t) (map (leaf_seen t) fs.leaves.now)) (view_in t c.args.full.now.graph) c.requires
