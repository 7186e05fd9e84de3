-- What is known of full structures.
use Rattle.std.specs.Prelude.{ℕ, Option, MatchOption}
use Rattle.tree_model.specs.Structures.{Structure}
use Rattle.tree_model.specs.Signs.{Signs}
use Rattle.tree_model.specs.Lexical.{IsEntry, IsUnderRule}

module _ {T : Type 0} (g : Signs) (value : T → Structure) (place : ℕ) where
  -- this is the full structure of the entry at a place, or none where it has none
  abbrev pub IsOfEntry : Option T → Type 0
  IsOfEntry o = MatchOption o ((f : Structure) → IsEntry g place f → ⊥) (λ full. IsEntry g place (value full))

  -- this is what the lexical rule at a place makes of a full structure, or none where it makes none
  abbrev pub IsUnder : Structure → Option T → Type 0
  IsUnder d o = MatchOption o ((f : Structure) → IsUnderRule g place d f → ⊥) (λ made. IsUnderRule g place d (value made))
