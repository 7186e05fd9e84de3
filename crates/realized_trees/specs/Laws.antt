-- What is asked for is what the item of generation accepts.
use Rattle.std.specs.Prelude.{ℕ, ◌≡◌, ◌↔◌, Option, List, []}
use Rattle.chart_model.specs.declared.counts.Counts.{Counts}
use Rattle.tree_model.specs.Structures.{Structure}
use Rattle.tree_model.specs.Signs.{Signs}
use Rattle.tree_model.specs.Lexical.{Words}
use Rattle.generate_model.specs.Bags.{bound_of, preds_of}
use Rattle.generate_model.specs.Contributions.{Input, asked_of}
use Rattle.generate_model.specs.Realizations.{IsGenAccepted}
use Rattle.generated_leaves.specs.Leaves.{WordLeaf}
use Rattle.realized_trees.specs.Wholes.{wholes_of}

-- an input without what the settings say of rules
abbrev pub bare : Input → Input
bare input = record input { c_cont_path = [] }

-- Whatever the words are, what rules contribute and how many rules and empty words may be.
abbrev pub WhollyAccepted : Type 0
WhollyAccepted = (g : Signs) (words : Words) (input : Input) (most_rules most_empty : ℕ) (own : ℕ → Option Counts) (bound : Counts) → bound.of ≡ (bound_of (preds_of input.meaning) most_empty).of →
    (leaves : List WordLeaf) (f : Structure) (c : Counts) →
    (wholes_of g (bare input) bound leaves).accepted f c ↔ IsGenAccepted g words (asked_of g input) most_rules most_empty own f c
