-- The full structures over a line's lexical trees, as its item has them.
use Rattle.std.specs.Prelude.{ℕ, ◌≡◌, List, slice_get}
use Rattle.std.proofs.Common.{refl, zero, suc}
use Rattle.chart_model.specs.Calculus.{along_none, along_more}
use Rattle.tree_model.specs.Structures.{Structure}
use Rattle.tree_model.specs.Laws.{rules_full}
use Rattle.tree_model.specs.Signs.{Signs, rule_system, placed_rules, place_at}
use Rattle.tree_model.specs.Lexical.{Words}
use Rattle.tree_model.specs.Trees.{IsRooted}
use Rattle.tree_model.specs.Items.{Limits}
use Rattle.tree_model.specs.Forests.{wholes, leaf_at, full_at}
use Rattle.tree_model.specs.Lattices.{Lattice}
use Rattle.tree_model.specs.Licensed.{parse_item}
use Rattle.lexical_items.specs.Listed.{Lexeme}
use Rattle.rule_trees.specs.Wholes.{wholes_of, full_named, tree_named}
use Rattle.grammar_rules.specs.Leafed.{leaf_trees, AreShapes}

module _ (g : Signs) where
  full_same : {xs : List Lexeme} {ms : List Structure} → AreShapes g xs ms → (n : ℕ) → full_at (slice_get (leaf_trees xs ms) n) ≡ full_named (slice_get xs n)
  full_same along_none n = refl
  full_same (along_more s more) zero = refl
  full_same (along_more s more) (suc n) = full_same more n

  tree_same : {xs : List Lexeme} {ms : List Structure} → AreShapes g xs ms → (n : ℕ) → leaf_at (slice_get (leaf_trees xs ms) n) ≡ tree_named (slice_get xs n)
  tree_same along_none n = refl
  tree_same (along_more s more) zero = refl
  tree_same (along_more s more) (suc n) = tree_same more n

  pub wholes_same : (words : Words) (lattice : Lattice) (most : ℕ) (limits : Limits) {xs : List Lexeme} {ms : List Structure} → AreShapes g xs ms → wholes g (parse_item g words lattice most) limits (leaf_trees xs ms) ≡ wholes_of g xs lattice.end
  wholes_same words lattice most limits {xs} {ms} shaped =
      λ i.
      record {
        leaf_full = λ n. full_same shaped n i;
        leaf_tree = λ n. tree_same shaped n i;
        full = rules_full (rule_system g);
        place = λ rule. place_at (slice_get (placed_rules g) rule);
        accepted = λ f c. (c.from ≡ 0) × (c.to ≡ lattice.end) × IsRooted g f;
      }
