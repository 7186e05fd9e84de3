-- Parents that are known, and the first that isn't.
use Rattle.std.specs.Prelude.{ℕ, ◌≡◌, ◌<◌, Bool, true, false, List, [], map, length, slice_index_or}
use Rattle.std.specs.List.{list_any}
use Rattle.std.specs.Str.{bytes_eq}
use Rattle.std.specs.String.{string_bytes}
use Rattle.type_hierarchy.specs.declared.decl.TypeFault.{TypeFault}
use Rattle.type_hierarchy.specs.declared.decl.TypeFault.TheVariants.{Unknown, NoMemory}
use Rattle.type_hierarchy.specs.Decls.{Name, Declared, parent_names, number_of}
use Rattle.type_hierarchy.specs.Faults.{NamesFirstUnknown}

abbrev pub is_known : List Name → Name → Bool
is_known names n = list_any (bytes_eq n) names

abbrev pub parent_at : Declared → ℕ → Name
parent_at d i = slice_index_or d.parents i []

abbrev pub AllKnown : List Name → Declared → Type 0
AllKnown names d = (i : ℕ) → i < length d.parents → is_known names (parent_at d i) ≡ true

-- the first parent of a declaration that isn't known
pub record IsFirstUnknown (names : List Name) (d : Declared) (name parent : Name) : Type 0 where
  pub place : ℕ
  pub within : place < length d.parents
  pub is_unknown : is_known names (parent_at d place) ≡ false
  pub known_before : (i : ℕ) → i < place → is_known names (parent_at d i) ≡ true
  pub name_is : name ≡ d.name
  pub parent_is : parent ≡ parent_at d place

abbrev pub IsUnknownOf : List Name → Declared → TypeFault → Type 0
IsUnknownOf names d (Unknown name parent) = IsFirstUnknown names d (string_bytes name) (string_bytes parent)
IsUnknownOf names d NoMemory = Unit {0}
IsUnknownOf names d _ = ⊥

abbrev pub IsUnknownFault : Name → Name → List Declared → TypeFault → Type 0
IsUnknownFault top text ds (Unknown name parent) = NamesFirstUnknown top text ds (string_bytes name) (string_bytes parent)
IsUnknownFault top text ds NoMemory = Unit {0}
IsUnknownFault top text ds _ = ⊥

abbrev pub implied : List Name → Name → List Declared → List (List ℕ)
implied names top ds = map (λ d. map (number_of names) (parent_names top d)) ds
