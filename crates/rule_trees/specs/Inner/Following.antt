-- Which lexical rule may apply to what another makes; only private clauses cite it.
use Rattle.std.specs.Prelude.{ℕ, ◌≡◌, Some, [], ◌∷◌}
use Rattle.fs_graph.specs.GraphMap.{GraphMap}
use Rattle.tree_model.specs.Structures.{Says}
use Rattle.tree_model.specs.Cuts.{Kept}
use Rattle.tree_model.specs.Mothers.{Rule, Applies, daughters_cut}
use Rattle.fs_model.specs.Claims.{Claim}
use Rattle.fs_model.specs.Closure.{Closure}
use Rattle.fs_model.specs.Sources.{Told}
use Rattle.tree_model.specs.Signs.{rule_system}
use Rattle.book_signs.specs.Trees.{SignTree, signs_of, rule_at}
use Rattle.rule_trees.specs.Mothers.{graph_view}

-- a graph says no more than what follows from the rule at a place, without daughters
abbrev pub IsOwnOf : SignTree → ℕ → GraphMap → Type 0
IsOwnOf t place own =
    (rule : Rule) → rule_at (signs_of t) place ≡ Some rule → (c : Claim) → Says (signs_of t).paths (graph_view t own) c → Kept (daughters_cut (rule_system (signs_of t))) (Closure (signs_of t).system (Told rule.facts)) c

-- the rule at a place doesn't apply to a structure
abbrev pub NeverApplies : SignTree → ℕ → GraphMap → Type 0
NeverApplies t place daughter = (rule : Rule) → rule_at (signs_of t) place ≡ Some rule → Applies (rule_system (signs_of t)) rule (graph_view t daughter ∷ []) → ⊥
