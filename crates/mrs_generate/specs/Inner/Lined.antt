-- The leaves of a chart for an input: its lexical trees in order, named by their numbers, with shapes that stand for the abstractions of
-- their full structures.
use Rattle.std.specs.Prelude.{◌≡◌, List, map}
use Rattle.chart_model.specs.declared.counts.Counts.{Counts}
use Rattle.chart_core.specs.declared.Leaf.{Leaf}
use Rattle.chart_core.specs.Leaves.{leaf_seen}
use Rattle.tree_model.specs.Structures.{Structure}
use Rattle.tree_model.specs.Signs.{Signs}
use Rattle.tree_model.specs.Items.{leaves_from}
use Rattle.generate_model.specs.Covers.{IsCount}
use Rattle.generated_leaves.specs.Leaves.{WordLeaf}
use Rattle.mrs_generate.specs.Inner.Leafed.{leaf_trees, AreShapes}

module _ {X T W B : Type 0} (g : Signs) (meaning : T → Structure) where
  -- what the shapes of leaves stand for
  abbrev pub shapes_in : List (Leaf X T Counts W B) → List Structure
  shapes_in leaves = map (λ l. meaning l.shape) leaves

  pub record AreLined (xs : List WordLeaf) (leaves : List (Leaf X T Counts W B)) : Type 0 where
    pub shaped : AreShapes g xs (shapes_in leaves)
    pub seen : map (leaf_seen meaning) leaves ≡ leaves_from 0 (leaf_trees xs (shapes_in leaves))

-- the shape of a leaf belongs, and its cover is one that may be
abbrev pub MayStand : {X T W B : Type 0} → (T → Type 0) → Counts → Leaf X T Counts W B → Type 0
MayStand belongs bound leaf = belongs leaf.shape × IsCount bound leaf.cover
