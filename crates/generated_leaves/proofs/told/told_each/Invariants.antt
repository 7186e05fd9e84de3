use Rattle.std.proofs.Common.{map}
use Rattle.book_signs.specs.Trees.{signs_of}
use Rattle.mrs_places.specs.Paths.{paths_of}
use Rattle.rule_trees.specs.Mothers.{view_in}
use Rattle.lexical_items.specs.InflectedViews.{tree_seen}
use Rattle.generated_leaves.specs.Views.{told_seen}
use Rattle.generated_leaves.specs.Inner.Telling.{AreToldOf}
use Rattle.generated_leaves.proofs.told.told_each.Given as goal

abbrev pub invariant-loop-one : goal.invariant-loop-one
invariant-loop-one l = AreToldOf (signs_of l.signs) l.signs.book.system.types (paths_of l.paths) (map (tree_seen (λ full. view_in l.signs full.graph)) l.yielded) (map (told_seen l.signs) l.out.items)
