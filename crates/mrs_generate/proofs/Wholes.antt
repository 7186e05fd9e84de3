-- The full structures over leaves, as their item has them.
use Rattle.std.specs.Prelude.{ℕ, ◌≡◌, Option, List, slice_get}
use Rattle.std.proofs.Common.{refl, zero, suc}
use Rattle.chart_model.specs.Calculus.{along_none, along_more}
use Rattle.chart_model.specs.declared.counts.Counts.{Counts}
use Rattle.tree_model.specs.Structures.{Structure}
use Rattle.tree_model.specs.Laws.{rules_full}
use Rattle.tree_model.specs.Signs.{Signs, rule_system, placed_rules, place_at}
use Rattle.tree_model.specs.Lexical.{Words}
use Rattle.tree_model.specs.Items.{Limits}
use Rattle.tree_model.specs.Forests.{wholes, leaf_at, full_at}
use Rattle.generate_model.specs.Contributions.{Input}
use Rattle.generate_model.specs.Realizations.{Asked, IsGenAccepted, gen_item}
use Rattle.generated_leaves.specs.Leaves.{WordLeaf}
use Rattle.realized_trees.specs.Wholes.{wholes_of, full_named, tree_named}
use Rattle.mrs_generate.specs.Inner.Leafed.{leaf_trees, AreShapes}
use Rattle.mrs_generate.proofs.Swapped.{accepting}

module _ (g : Signs) where
  full_same : {xs : List WordLeaf} {ms : List Structure} → AreShapes g xs ms → (n : ℕ) → full_named (slice_get xs n) ≡ full_at (slice_get (leaf_trees xs ms) n)
  full_same along_none n = refl
  full_same (along_more s more) zero = refl
  full_same (along_more s more) (suc n) = full_same more n

  tree_same : {xs : List WordLeaf} {ms : List Structure} → AreShapes g xs ms → (n : ℕ) → tree_named (slice_get xs n) ≡ leaf_at (slice_get (leaf_trees xs ms) n)
  tree_same along_none n = refl
  tree_same (along_more s more) zero = refl
  tree_same (along_more s more) (suc n) = tree_same more n

  pub wholes_same : (words : Words) (asked : Asked) (most_rules most_empty : ℕ) (own : ℕ → Option Counts) (limits : Limits) (input : Input) (bound : Counts) {xs : List WordLeaf} {ms : List Structure} → AreShapes g xs ms →
      accepting (wholes_of g input bound xs) (IsGenAccepted g words asked most_rules most_empty own) ≡ wholes g (gen_item g words asked most_rules most_empty own) limits (leaf_trees xs ms)
  wholes_same words asked most_rules most_empty own limits input bound {xs} {ms} shaped =
      λ i.
      record {
        leaf_full = λ n. full_same shaped n i;
        leaf_tree = λ n. tree_same shaped n i;
        full = rules_full (rule_system g);
        place = λ rule. place_at (slice_get (placed_rules g) rule);
        accepted = IsGenAccepted g words asked most_rules most_empty own;
      }
