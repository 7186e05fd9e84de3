-- Full structures of the trees over the leaves of generation, and which trees are asked for.
use Rattle.std.specs.Prelude.{ℕ, ◌≡◌, Option, Some, None, List, [], slice_get}
use Rattle.chart_model.specs.declared.counts.Counts.{Counts}
use Rattle.derivation.specs.Trees.{Derivation, lexical}
use Rattle.tree_model.specs.Readings.{Wholes}
use Rattle.tree_model.specs.Structures.{Structure}
use Rattle.tree_model.specs.Laws.{rules_full}
use Rattle.tree_model.specs.Signs.{Signs, rule_system, placed_rules, place_at}
use Rattle.tree_model.specs.Trees.{Full, IsRooted}
use Rattle.mrs_model.specs.Meanings.{Meaning}
use Rattle.mrs_places.specs.Paths.{Paths}
use Rattle.book_signs.specs.Trees.{SignTree}
use Rattle.generate_model.specs.Contributions.{Input, Means}
use Rattle.generated_leaves.specs.Leaves.{WordLeaf}

-- the tree and the full structure of a leaf's name, which is its place among the leaves
abbrev pub tree_named : Option WordLeaf → Derivation
tree_named None = lexical 0 [] [] None
tree_named (Some x) = x.tree

abbrev pub full_named : Option WordLeaf → Structure
full_named None = record { types = []; equal = [] }
full_named (Some x) = x.full

-- what is generated from; what the settings say of rules doesn't enter into what a full structure means
abbrev pub input_of : SignTree → Paths → Meaning → Input
input_of t paths meaning = record { types = t.book.system.types; paths = paths; c_cont_path = []; meaning = meaning }

-- Trees are asked for that are rooted, mean what is meant and have the counts of the bound.
abbrev pub wholes_of : Signs → Input → Counts → List WordLeaf → Wholes Structure Counts
wholes_of g input bound leaves =
    record {
      leaf_full = λ n. full_named (slice_get leaves n);
      leaf_tree = λ n. tree_named (slice_get leaves n);
      full = rules_full (rule_system g);
      place = λ rule. place_at (slice_get (placed_rules g) rule);
      accepted = λ f c. IsRooted g f × Means g input f × (c.of ≡ bound.of);
    }

-- a leaf of this name is there, with the full structure of its tree
pub record IsLeafAt (g : Signs) (leaves : List WordLeaf) (name : ℕ) : Type 0 where
  pub leaf : WordLeaf
  pub at : slice_get leaves name ≡ Some leaf
  pub full : Full g leaf.tree leaf.full
