-- Rules over counts of predicates.
use Rattle.std.specs.Prelude.{ℕ, ◌<◌, ◌≤◌, ◌^◌, Option, Some, None, List, [], ◌∷◌, length, slice_get}
use Rattle.chart_model.specs.Calculus.{Calculus, Laws}
use Rattle.chart_model.specs.Sums.{counts_join, counts_size}
use Rattle.chart_model.specs.declared.counts.Counts.{Counts}
use Rattle.tree_model.specs.Structures.{Structure, IsPartialOrder}
use Rattle.tree_model.specs.Mothers.{RuleSystem, arity_at}
use Rattle.tree_model.specs.Laws.{rules_calculus}
use Rattle.tree_model.proofs.AllLaws.{rules_keep_shapes}
use Rattle.generate_model.specs.Covers.{counts_all, same_counts, IsCount}
use Rattle.generate_model.proofs.CoverProofs.{counts_are_covers}

-- each rule has one to four daughters
abbrev pub AreSized : RuleSystem → Type 0
AreSized g = (rule : ℕ) → rule < length g.rules → (0 < arity_at g (slice_get g.rules rule)) × (arity_at g (slice_get g.rules rule) ≤ 4)

abbrev pub first_of : List (Option Counts) → Option Counts
first_of [] = None
first_of (c ∷ cs) = c

abbrev pub or_first : List (Option Counts) → Option (Option Counts) → Option Counts
or_first own None = first_of own
or_first own (Some c) = c

-- what a rule contributes, by its number; a number that no rule has stands for the first rule
abbrev pub own_at : List (Option Counts) → ℕ → Option Counts
own_at own rule = or_first own (slice_get own rule)

-- a mother covers what her rule contributes and what her daughters cover
abbrev pub count_calculus : RuleSystem → Counts → (ℕ → Option Counts) → Calculus Structure Counts
count_calculus g bound own = rules_calculus g (λ rule cs. counts_all bound (own rule) cs) same_counts (counts_join bound) counts_size (IsCount bound)

pub counted_laws : (g : RuleSystem) (bound : Counts) (own : ℕ → Option Counts) → IsPartialOrder g.system → AreSized g → counts_size bound < 2 ^ 32 → Laws (count_calculus g bound own)
counted_laws g bound own order sized small = record { of_shapes = rules_keep_shapes g order; of_covers = counts_are_covers g bound own small sized }
