-- Lexical trees with the abstractions of their full structures, as the leaves of an item.
use Rattle.std.specs.Prelude.{List, [], ◌∷◌}
use Rattle.chart_model.specs.Calculus.{Along}
use Rattle.chart_model.specs.declared.counts.Counts.{Counts}
use Rattle.tree_model.specs.Structures.{Structure}
use Rattle.tree_model.specs.Mothers.{IsAbstract, Meant}
use Rattle.tree_model.specs.Signs.{Signs, rule_system}
use Rattle.tree_model.specs.Items.{LeafTree}
use Rattle.generated_leaves.specs.Leaves.{WordLeaf}

abbrev pub leaf_of : WordLeaf → Structure → LeafTree Counts
leaf_of x shape = record { tree = x.tree; cover = x.cover; full = x.full; shape = shape }

abbrev pub leaf_trees : List WordLeaf → List Structure → List (LeafTree Counts)
leaf_trees [] shapes = []
leaf_trees (x ∷ xs) [] = []
leaf_trees (x ∷ xs) (m ∷ ms) = leaf_of x m ∷ leaf_trees xs ms

-- the shape of a lexical tree is the abstraction of its full structure
abbrev pub IsShapeOf : Signs → WordLeaf → Structure → Type 0
IsShapeOf g x shape = IsAbstract (rule_system g) (Meant (rule_system g) x.full) shape

abbrev pub AreShapes : Signs → List WordLeaf → List Structure → Type 0
AreShapes g xs shapes = Along (IsShapeOf g) xs shapes
