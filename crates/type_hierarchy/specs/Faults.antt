-- The faults of declarations. Each stands at the first place that has it, and where none of a lower number is.
use Rattle.std.specs.Prelude.{ℕ, ◌≡◌, ◌<◌, ◌≤◌, ◌+◌, ◌-◌, ◌^◌, ◌&&◌, ◌||◌, Bool, true, false, List, [], length, take, drop, slice_index_or, codes, min, nat_lt}
use Rattle.std.specs.Str.{bytes_eq}
use Rattle.std.specs.List.{list_all}
use Rattle.std.specs.Char.{is_ascii_digit}
use Rattle.std.specs.String.{string_bytes}
use Rattle.type_hierarchy.specs.declared.decl.TypeFault.{TypeFault}
use Rattle.type_hierarchy.specs.declared.decl.TypeFault.TheVariants.{Duplicate, Unknown, Cycle, Reserved, TooMany, NoMemory}
use Rattle.type_hierarchy.specs.Decls.{Name, Declared, at_place, is_defined, is_type, unwritten, parents_of}
use Rattle.type_hierarchy.specs.Order.{IsBelow}

-- the first place at which P holds
abbrev pub IsFirst : (ℕ → Type 0) → ℕ → Type 0
IsFirst P k = P k × ((j : ℕ) → j < k → P j → ⊥)

-- a declaration whose name an earlier one defines
abbrev pub IsDuplicate : List Declared → ℕ → Type 0
IsDuplicate ds k = (k < length ds) × (is_defined (take k ds) (at_place ds k).name ≡ true)

-- the parent at place i of a declaration names no type
abbrev pub IsUnknown : Name → Name → List Declared → ℕ → ℕ → Type 0
IsUnknown top text ds k i =
    (k < length ds) × (i < length (at_place ds k).parents)
    × (is_type top text ds (slice_index_or (at_place ds k).parents i []) ≡ false)

-- a declaration whose type is below itself
abbrev pub IsCyclic : Name → Name → List Declared → ℕ → Type 0
IsCyclic top text ds k =
    let t = length (unwritten top text ds) + k in
    (k < length ds) × IsBelow (parents_of top text ds) t t

-- `glbtype` and digits alone
abbrev pub is_glb_name : Name → Bool
is_glb_name n =
    nat_lt 7 (length n) && bytes_eq (take 7 n) (codes "glbtype") && list_all is_ascii_digit (drop 7 n)

-- a declaration of the top type, or of a name that added types have
abbrev pub IsReserved : Name → List Declared → ℕ → Type 0
IsReserved top ds k =
    (k < length ds) × ((bytes_eq (at_place ds k).name top || is_glb_name (at_place ds k).name) ≡ true)

abbrev pub most_types : ℕ
most_types = 16384

abbrev pub HasNoDuplicate : List Declared → Type 0
HasNoDuplicate ds = (k : ℕ) → IsDuplicate ds k → ⊥

abbrev pub HasNoUnknown : Name → Name → List Declared → Type 0
HasNoUnknown top text ds = (k i : ℕ) → IsUnknown top text ds k i → ⊥

abbrev pub HasNoCycle : Name → Name → List Declared → Type 0
HasNoCycle top text ds = (k : ℕ) → IsCyclic top text ds k → ⊥

abbrev pub HasNoReserved : Name → List Declared → Type 0
HasNoReserved top ds = (k : ℕ) → IsReserved top ds k → ⊥

-- declarations without a fault
pub record IsFaultless (top text : Name) (ds : List Declared) : Type 0 where
  pub no_duplicate : HasNoDuplicate ds
  pub no_unknown : HasNoUnknown top text ds
  pub no_cycle : HasNoCycle top text ds
  pub no_reserved : HasNoReserved top ds
  pub few : length ds ≤ most_types

-- the name is that of the first declaration of which P holds
abbrev pub NamesFirst : List Declared → (ℕ → Type 0) → Name → Type 0
NamesFirst ds P n = (k : ℕ) × IsFirst P k × (n ≡ (at_place ds k).name)

-- the first declaration with an unknown parent, and the first of these
pub record NamesFirstUnknown (top text : Name) (ds : List Declared) (name parent : Name) : Type 0 where
  pub place : ℕ
  pub parent_place : ℕ
  pub is_unknown : IsUnknown top text ds place parent_place
  pub none_before : (k i : ℕ) → k < place → IsUnknown top text ds k i → ⊥
  pub first_parent : (i : ℕ) → i < parent_place → IsUnknown top text ds place i → ⊥
  pub name_is : name ≡ (at_place ds place).name
  pub parent_is : parent ≡ slice_index_or (at_place ds place).parents parent_place []

-- what a fault says of the declarations
abbrev pub IsFaultOf : Name → Name → List Declared → TypeFault → Type 0
IsFaultOf top text ds (Duplicate name) = NamesFirst ds (IsDuplicate ds) (string_bytes name)
IsFaultOf top text ds (Unknown name parent) =
    HasNoDuplicate ds × NamesFirstUnknown top text ds (string_bytes name) (string_bytes parent)
IsFaultOf top text ds (Cycle name) =
    HasNoDuplicate ds × HasNoUnknown top text ds × NamesFirst ds (IsCyclic top text ds) (string_bytes name)
IsFaultOf top text ds (Reserved name) =
    HasNoDuplicate ds × HasNoUnknown top text ds × HasNoCycle top text ds
    × NamesFirst ds (IsReserved top ds) (string_bytes name)
IsFaultOf top text ds (TooMany count) =
    HasNoDuplicate ds × HasNoUnknown top text ds × HasNoCycle top text ds × HasNoReserved top ds
    × (most_types < length ds) × (count ≡ min (length ds) (2 ^ 32 - 1))
IsFaultOf top text ds NoMemory = Unit {0}
