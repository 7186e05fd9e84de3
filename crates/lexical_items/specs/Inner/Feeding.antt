-- Tables of what may apply to what, while they are filled.
use Rattle.std.specs.Prelude.{ℕ, ◌≡◌, ◌⊎◌, Bool, false, List, length}
use Rattle.chart_model.specs.At.{At}
use Rattle.tree_model.specs.Structures.{Structure}
use Rattle.tree_model.specs.Signs.{Signs}
use Rattle.tree_model.specs.Lexical.{IsUnderRule}
use Rattle.morph_analysis.specs.Allowed.{FeedsTree, AllMay, in_table}

-- a rule never applies to what another gives
abbrev pub NeverFollows : Signs → ℕ → ℕ → Type 0
NeverFollows g inner outer = (d e f : Structure) → IsUnderRule g inner d e → IsUnderRule g outer e f → ⊥

-- only what never applies is forbidden
pub record IsHarmless (g : Signs) (rules : List ℕ) (f : FeedsTree) : Type 0 where
  pub counted : f.rules ≡ length rules
  pub on_entry : AllMay f.on_entry
  pub on_rule : (i j p q : ℕ) → At rules i p → At rules j q → in_table f.on_rule i j ≡ false → NeverFollows g p q

-- one rule may be forbidden below another, and nothing else changed
pub record ForbidsAtMost (inner outer : ℕ) (yes : Bool) (old new : FeedsTree) : Type 0 where
  pub rules_same : new.rules ≡ old.rules
  pub entries_may : AllMay old.on_entry → AllMay new.on_entry
  pub others : (i j : ℕ) → in_table new.on_rule i j ≡ false → (in_table old.on_rule i j ≡ false) ⊎ ((yes ≡ false) × (i ≡ inner) × (j ≡ outer))
