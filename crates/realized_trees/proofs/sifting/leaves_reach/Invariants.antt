use Rattle.std.proofs.Common.{map, take}
use Rattle.std.specs.Prelude.{All}
use Rattle.tree_model.specs.Signs.{rule_system}
use Rattle.generate_model.specs.Threading.{Fit}
use Rattle.book_signs.specs.Trees.{signs_of}
use Rattle.generated_leaves.specs.Views.{leaf_seen}
use Rattle.relation_fit.specs.Lists.{list_seen}
use Rattle.realized_trees.proofs.sifting.leaves_reach.Given as goal

abbrev pub invariant-loop-leaf : goal.invariant-loop-leaf
invariant-loop-leaf l = All (λ x. Fit (rule_system (signs_of l.signs)) (list_seen l.list).rest (list_seen l.list).ends x.full) (map (leaf_seen l.signs) (take l.leaf-index l.leaves))
