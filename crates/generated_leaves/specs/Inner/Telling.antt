-- Lexical trees that are told of one after another.
use Rattle.std.specs.Prelude.{ℕ, ◌≡◌, List, map}
use Rattle.chart_model.specs.At.{At}
use Rattle.type_hierarchy.specs.Table.{TypeTable}
use Rattle.mrs_places.specs.Paths.{Paths}
use Rattle.tree_model.specs.Signs.{Signs}
use Rattle.lexical_items.specs.Inflected.{WordTree}
use Rattle.generated_leaves.specs.Told.{ToldWord, word_of, IsSaid}

-- these are told of the trees so far
pub record AreToldOf (g : Signs) (types : TypeTable) (paths : Paths) (ws : List WordTree) (xs : List ToldWord) : Type 0 where
  pub same : map word_of xs ≡ ws
  pub said : (n : ℕ) (x : ToldWord) → At xs n x → IsSaid g types paths x.full x.preds
