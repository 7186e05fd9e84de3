-- The chart's calculus, by a rule's number, is the item's, by its place.
use Rattle.std.specs.Prelude.{ℕ, ◌≡◌, Option, List, slice_get}
use Rattle.chart_model.specs.Sums.{counts_join, counts_size}
use Rattle.chart_model.specs.declared.counts.Counts.{Counts}
use Rattle.tree_model.specs.Laws.{rules_calculus}
use Rattle.tree_model.specs.Signs.{Signs, rule_system, placed_rules, place_at}
use Rattle.tree_model.specs.Lexical.{Words}
use Rattle.tree_model.specs.Items.{calculus}
use Rattle.generate_model.specs.Bags.{bound_of}
use Rattle.generate_model.specs.Covers.{counts_all, same_counts, IsCount}
use Rattle.generate_model.specs.Realizations.{Asked, gen_item}
use Rattle.generated_leaves.specs.Counted.{count_calculus, own_at}

pub calculus_same : (g : Signs) (words : Words) (asked : Asked) (most_rules most_empty : ℕ) (own : ℕ → Option Counts) (numbered : List (Option Counts)) →
    ((rule : ℕ) → own (place_at (slice_get (placed_rules g) rule)) ≡ own_at numbered rule) →
    calculus g (gen_item g words asked most_rules most_empty own) ≡ count_calculus (rule_system g) (bound_of asked.bag most_empty) (own_at numbered)
calculus_same g words asked most_rules most_empty own numbered agree =
    λ i.
    rules_calculus (rule_system g) (λ rule cs. counts_all (bound_of asked.bag most_empty) (agree rule i) cs) same_counts (counts_join (bound_of asked.bag most_empty)) counts_size
    (IsCount (bound_of asked.bag most_empty))
