-- Predicates that stay what they are, however specific a structure gets.
use Rattle.std.specs.Prelude.{ℕ, ◌≡◌, ◌<◌, true, Option, Some, None, List, [], ◌∷◌}
use Rattle.type_hierarchy.specs.Table.{TypeTable, count_of, is_below}

-- no other type is at or below it
abbrev pub IsSettled : TypeTable → ℕ → Type 0
IsSettled types t = (u : ℕ) → u < count_of types → is_below types u t ≡ true → u ≡ t

-- the first of some types that is settled, where there is one
pub data FirstSettled (types : TypeTable) : List ℕ → Option ℕ → Type 0 where
  no_settled : FirstSettled types [] None
  is_first : {t : ℕ} {ts : List ℕ} → IsSettled types t → FirstSettled types (t ∷ ts) (Some t)
  is_later : {t : ℕ} {ts : List ℕ} {o : Option ℕ} → (IsSettled types t → ⊥) → FirstSettled types ts o → FirstSettled types (t ∷ ts) o
