use Rattle.std.proofs.Common.{map}
use Rattle.mrs_model.specs.Views.{meaning_of}
use Rattle.mrs_places.specs.Paths.{paths_of}
use Rattle.book_signs.specs.Trees.{signs_of}
use Rattle.rule_trees.specs.Mothers.{view_in}
use Rattle.generated_leaves.specs.Views.{leaf_seen}
use Rattle.realized_trees.specs.Wholes.{input_of}
use Rattle.realized_trees.proofs.Reaching.{reached_made, reached_sound}
use Rattle.realized_trees.proofs.Valid.{valid_of}
use Rattle.realized_trees.proofs.fulls.RealizedFullsFulls.accepts.Goals as goal

pub is_realized-requires-clause-made : goal.is_realized-requires-clause-made
is_realized-requires-clause-made c =
    let s = c.args.self.now in
    let t = s.signs.now in
    reached_made (signs_of t) (input_of t (paths_of s.paths.now) (meaning_of s.mrs.now)) s.bound.now (map (leaf_seen t) s.leaves.now) (view_in t c.args.full.now.graph) c.requires

pub is_realized-requires-clause-sound : goal.is_realized-requires-clause-sound
is_realized-requires-clause-sound c =
    let s = c.args.self.now in
    let t = s.signs.now in
    reached_sound (signs_of t) (input_of t (paths_of s.paths.now) (meaning_of s.mrs.now)) s.bound.now (map (leaf_seen t) s.leaves.now) (view_in t c.args.full.now.graph) c.requires

pub is_realized-requires-clause-valid : goal.is_realized-requires-clause-valid
is_realized-requires-clause-valid c = valid_of (meaning_of c.args.self.now.mrs.now) c.args.self.now.valid
