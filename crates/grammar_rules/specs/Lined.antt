-- The leaves of a chart over a line: its lexical trees in order, named by their numbers, with shapes that stand for the abstractions of
-- their full structures.
use Rattle.std.specs.Prelude.{◌≡◌, List, map}
use Rattle.chart_model.specs.declared.span.Span.{Span}
use Rattle.chart_core.specs.declared.Leaf.{Leaf}
use Rattle.chart_core.specs.Leaves.{leaf_seen}
use Rattle.tree_model.specs.Structures.{Structure}
use Rattle.tree_model.specs.Signs.{Signs}
use Rattle.tree_model.specs.Items.{leaves_from}
use Rattle.lexical_items.specs.Listed.{Lexeme}
use Rattle.grammar_rules.specs.Leafed.{leaf_trees, AreShapes}

module _ {X T W B : Type 0} (g : Signs) (meaning : T → Structure) where
  -- what the shapes of leaves stand for
  abbrev pub shapes_in : List (Leaf X T Span W B) → List Structure
  shapes_in leaves = map (λ l. meaning l.shape) leaves

  pub record AreLined (xs : List Lexeme) (leaves : List (Leaf X T Span W B)) : Type 0 where
    pub shaped : AreShapes g xs (shapes_in leaves)
    pub seen : map (leaf_seen meaning) leaves ≡ leaves_from 0 (leaf_trees xs (shapes_in leaves))
