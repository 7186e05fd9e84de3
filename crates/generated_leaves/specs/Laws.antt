-- What holds of the counts of rules.
use Rattle.std.specs.Prelude.{ℕ, ◌≡◌, Option, List, length, slice_get}
use Rattle.fs_model.specs.Claims.{IsOrder}
use Rattle.chart_model.specs.declared.counts.Counts.{Counts}
use Rattle.type_hierarchy.specs.Table.{TypeTable}
use Rattle.tree_model.specs.Signs.{Signs, placed_rules, place_at, rule_system}
use Rattle.mrs_places.specs.Paths.{Feature, Paths}
use Rattle.generate_model.specs.Bags.{Word, distinct, preds_of}
use Rattle.generated_leaves.specs.Counted.{own_at}
use Rattle.generate_model.specs.Contributions.{Input, asked_of}
use Rattle.generate_model.specs.Realizations.{IsTold}
use Rattle.generated_leaves.specs.Given.{AreGiven, own_counts}
use Rattle.generated_leaves.specs.Placed.{own_by_place}

-- There are as many counts as rules.
abbrev pub OwnsAreEven : Type 0
OwnsAreEven = (g : Signs) (types : TypeTable) (paths : Paths) (c_cont : List Feature) (given : List (List Word)) → AreGiven g types paths c_cont given →
    (places : List Word) → length (own_counts places given) ≡ length (rule_system g).rules

-- The counts of a rule by its place are those by its number; this is said of all numbers.
abbrev pub OwnsAgree : Type 0
OwnsAgree = (g : Signs) (own : List (Option Counts)) → length own ≡ length (rule_system g).rules → (rule : ℕ) →
    own_by_place g own (place_at (slice_get (placed_rules g) rule)) ≡ own_at own rule

-- The counts for an input's bag tell what the rules contribute to it.
abbrev pub OwnsAreTold : Type 0
OwnsAreTold = (g : Signs) → IsOrder g.system → (input : Input) (given : List (List Word)) → AreGiven g input.types input.paths input.c_cont_path given →
    IsTold g (asked_of g input) (own_by_place g (own_counts (distinct (preds_of input.meaning)) given))
