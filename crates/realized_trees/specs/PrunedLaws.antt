-- Dropping changes nothing of what is asked for.
use Rattle.std.specs.Prelude.{ℕ, ◌↔◌, Option, IfSome, List}
use Rattle.chart_model.specs.Calculus.{Calculus}
use Rattle.chart_model.specs.Sums.{counts_join, counts_size}
use Rattle.chart_model.specs.declared.counts.Counts.{Counts}
use Rattle.chart_model.specs.At.{At}
use Rattle.chart_model.specs.Chart.{Leaf, Limits}
use Rattle.derivation.specs.Trees.{Derivation}
use Rattle.fs_model.specs.Claims.{IsOrder}
use Rattle.tree_model.specs.Readings.{IsAccepted}
use Rattle.tree_model.specs.Structures.{Structure}
use Rattle.tree_model.specs.Laws.{rules_calculus}
use Rattle.tree_model.specs.Signs.{rule_system}
use Rattle.mrs_model.specs.Meanings.{Meaning}
use Rattle.mrs_places.specs.Paths.{Paths}
use Rattle.mrs_extract.specs.Asked.{ArePaths}
use Rattle.book_signs.specs.Trees.{SignTree, signs_of}
use Rattle.generate_model.specs.Covers.{counts_all, same_counts, IsCount}
use Rattle.generated_leaves.specs.Leaves.{WordLeaf}
use Rattle.realized_trees.specs.Wholes.{input_of, wholes_of, IsLeafAt}
use Rattle.realized_trees.specs.declared.sifting.Sieve.{Sieve}
use Rattle.realized_trees.specs.Sieves.{IsSieve, sifted}

-- the phrase rules of a grammar over counts within a bound, where the rules contribute these themselves
abbrev pub counted_rules : SignTree → Counts → (ℕ → Option Counts) → Calculus Structure Counts
counted_rules t bound own = rules_calculus (rule_system (signs_of t)) (λ rule cs. counts_all bound (own rule) cs) same_counts (counts_join bound) counts_size (IsCount bound)

-- For each bound, what rules contribute, limits, and leaves of a chart that are named by places among those of the sieve.
abbrev pub SievesAreExact : Type 0
SievesAreExact = (t : SignTree) (p : Paths) (meaning : Meaning) (xs : List WordLeaf) (o : Option Sieve) → IsOrder (signs_of t).system → ArePaths t.book.system.types p → IfSome o (IsSieve t p meaning xs) →
    (bound : Counts) (own : ℕ → Option Counts) (limits : Limits) (leaves : List (Leaf Structure Counts)) →
    ((n : ℕ) (leaf : Leaf Structure Counts) → At leaves n leaf → IsLeafAt (signs_of t) xs leaf.name) → (tree : Derivation) →
    IsAccepted (counted_rules t bound own) (sifted t p o (wholes_of (signs_of t) (input_of t p meaning) bound xs)) limits leaves tree
    ↔ IsAccepted (counted_rules t bound own) (wholes_of (signs_of t) (input_of t p meaning) bound xs) limits leaves tree
