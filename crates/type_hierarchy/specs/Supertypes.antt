-- What stands immediately above a type.
use Rattle.std.specs.Prelude.{ℕ, ◌==◌, ◌&&◌, not, Bool, List, map, filter}
use Rattle.std.specs.List.{list_any, range_with_len}
use Rattle.type_hierarchy.specs.declared.types.Ty.{Ty}
use Rattle.type_hierarchy.specs.Table.{TypeTable, completed_count, is_below}

-- at or below, and another type
abbrev pub is_strictly_below : TypeTable → ℕ → ℕ → Bool
is_strictly_below t a b = not (a == b) && is_below t a b

-- a completed type stands strictly between
abbrev pub has_between : TypeTable → ℕ → ℕ → Bool
has_between t a b = list_any (λ u. is_strictly_below t a u && is_strictly_below t u b) (range_with_len 0 (completed_count t))

-- the immediate supertypes of a type among the completed types, in rising order
abbrev pub supertypes_of : TypeTable → ℕ → List ℕ
supertypes_of t a = filter (λ b. is_strictly_below t a b && not (has_between t a b)) (range_with_len 0 (completed_count t))

-- the numbers of types
abbrev pub numbers_of : List Ty → List ℕ
numbers_of ts = map (λ t. t.0) ts
