-- Counts of rules by their places in a grammar, from those by their numbers in a chart.
use Rattle.std.specs.Prelude.{ℕ, ◌==◌, if◌then◌else◌, Option, Some, None, List, [], ◌∷◌}
use Rattle.chart_model.specs.declared.counts.Counts.{Counts}
use Rattle.tree_model.specs.Mothers.{Rule}
use Rattle.tree_model.specs.Signs.{Signs, placed_rules}
use Rattle.generated_leaves.specs.Counted.{or_first}

-- the counts of the rule at a place, of rules with their places; none where no rule is there
abbrev pub counts_at : List (ℕ × Rule) → List (Option Counts) → ℕ → Option (Option Counts)
counts_at [] own place = None
counts_at (r ∷ rs) [] place = None
counts_at (r ∷ rs) (c ∷ cs) place = if r.0 == place then Some c else counts_at rs cs place

-- what a phrase rule contributes, by its place; a place that no phrase rule has stands for the first rule
abbrev pub own_by_place : Signs → List (Option Counts) → ℕ → Option Counts
own_by_place g own place = or_first own (counts_at (placed_rules g) own place)
