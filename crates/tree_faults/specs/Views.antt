-- What contracts see of explanations.
use Rattle.std.specs.Prelude.{ℕ, ◌<◌, All}
use Rattle.type_hierarchy.specs.Table.{TypeTable, count_of}
use Rattle.fs_graph.specs.Facts.{path_of}
use Rattle.tree_faults.specs.declared.explaining.Explanation.{Explanation}
use Rattle.tree_faults.specs.declared.explaining.Explanation.TheVariants as explanations
use Rattle.tree_faults.specs.Explained.{Explained, Licensed, Clashes, GoesTooFar, Misspelled, Unrooted}

abbrev pub explanation_of : Explanation → Explained
explanation_of (explanations.Licensed) = Licensed
explanation_of (explanations.Clashes place instance path first second) = Clashes place.items instance (path_of path.items) first.0 second.0
explanation_of (explanations.GoesTooFar place instance path) = GoesTooFar place.items instance (path_of path.items)
explanation_of (explanations.Misspelled place instance) = Misspelled place.items instance
explanation_of (explanations.Unrooted) = Unrooted

-- what is told has names: its types are of the table, and there are so many features and instances
abbrev pub IsExplainedNamed : TypeTable → (feats count : ℕ) → Explained → Type 0
IsExplainedNamed types feats count Licensed = Unit {0}
IsExplainedNamed types feats count (Clashes place instance path t u) =
    (instance < count) × All (λ f. f < feats) path × (t < count_of types) × (u < count_of types)
IsExplainedNamed types feats count (GoesTooFar place instance path) = (instance < count) × All (λ f. f < feats) path
IsExplainedNamed types feats count (Misspelled place instance) = instance < count
IsExplainedNamed types feats count Unrooted = Unit {0}
