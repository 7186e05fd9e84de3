-- Declarations of types: which types they give, and each one's parents (Copestake 2002, type hierarchies; DELPH-IN TDL, definitions of types).
use Rattle.std.specs.Prelude.{ℕ, ◌&&◌, not, if◌then◌else◌, Bool, List, [], ◌∷◌, ◌++◌, map, filter, length, slice_index_or, position, unwrap_or, ◌==◌}
use Rattle.std.specs.List.{list_any}
use Rattle.std.specs.Prelude.{◌≡◌, String}
use Rattle.std.specs.Global.{Global}
use Rattle.std.specs.Str.{bytes_eq}
use Rattle.std.specs.String.{string_bytes}
use Rattle.type_hierarchy.specs.declared.decl.Decl.{Decl}

-- a name is its bytes
abbrev pub Name : Type 0
Name = List ℕ

-- a type with the names of its parents
pub record Declared : Type 0 where
  pub name : Name
  pub parents : List Name

abbrev pub declared : Decl → Declared
declared d = record { name = string_bytes d.name; parents = map string_bytes d.parents.items }

abbrev pub bare : Name → Declared
bare n = record { name = n; parents = [] }

-- the declaration at a place in the order of writing
abbrev pub at_place : List Declared → ℕ → Declared
at_place ds k = slice_index_or ds k (bare [])

abbrev pub is_defined : List Declared → Name → Bool
is_defined ds n = list_any (λ d. bytes_eq n d.name) ds

-- the top type and the string type are types also where they aren't written
abbrev pub unwritten : Name → Name → List Declared → List Declared
unwritten top text ds = filter (λ d. not (is_defined ds d.name)) (bare top ∷ bare text ∷ [])

-- all types, by number
abbrev pub types_of : Name → Name → List Declared → List Declared
types_of top text ds = unwritten top text ds ++ ds

abbrev pub names_of : Name → Name → List Declared → List Name
names_of top text ds = map (λ d. d.name) (types_of top text ds)

abbrev pub is_type : Name → Name → List Declared → Name → Bool
is_type top text ds n = is_defined (types_of top text ds) n

-- a type without parents stands below the top type; the top type itself has none
abbrev pub parent_names : Name → Declared → List Name
parent_names top d = if (length d.parents == 0) && not (bytes_eq d.name top) then top ∷ [] else d.parents

-- the number of a name
abbrev pub number_of : List Name → Name → ℕ
number_of names n = unwrap_or (position (bytes_eq n) names) 0

-- by number, the numbers of each type's parents
abbrev pub parents_of : Name → Name → List Declared → List (List ℕ)
parents_of top text ds =
    map (λ d. map (number_of (names_of top text ds)) (parent_names top d)) (types_of top text ds)

abbrev pub decls_of : List Decl → List Declared
decls_of ds = map declared ds

abbrev pub texts : List (String Global) → List Name
texts names = map string_bytes names

-- names as they are stored
abbrev pub IsUnwritten : Name → Name → List Declared → List (String Global) → Type 0
IsUnwritten top text ds names = texts names ≡ map (λ d. d.name) (unwritten top text ds)
