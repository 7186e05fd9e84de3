-- Types by number, each standing for the set of the written types at or below it, with strings beside them (Copestake 2002, bounded completeness).
use Rattle.std.specs.Prelude.{ℕ, ◌≡◌, ◌≢◌, ◌<◌, ◌==◌, ◌&&◌, ◌||◌, ◌↔◌, if◌then◌else◌, nat_lt, Bool, true, Option, Some, None, List, [], ◌++◌, length, map, filter, slice_index_or, position, All, Contains, codes}
use Rattle.std.specs.List.{list_all, list_any, range_with_len}
use Rattle.std.specs.Str.{bytes_eq}
use Rattle.std.specs.Fmt.{decimal}
use Rattle.type_hierarchy.specs.Decls.{Name, Declared, names_of, parents_of, number_of}
use Rattle.type_hierarchy.specs.Order.{IsAtOrBelow}

-- Names of all types by number; the sets of those that aren't strings, each in rising order.
-- The first `written` types are the members that sets have.
pub record TypeTable : Type 0 where
  pub names : List Name
  pub sets : List (List ℕ)
  pub written : ℕ
  pub string_type : ℕ

abbrev pub count_of : TypeTable → ℕ
count_of t = length t.names

abbrev pub completed_count : TypeTable → ℕ
completed_count t = length t.sets

-- the set that a type stands for
abbrev pub set_of : TypeTable → ℕ → List ℕ
set_of t a = slice_index_or t.sets a []

abbrev pub has_member : List ℕ → ℕ → Bool
has_member xs x = list_any (λ y. y == x) xs

abbrev pub is_subset : List ℕ → List ℕ → Bool
is_subset xs ys = list_all (has_member ys) xs

abbrev pub intersection : List ℕ → List ℕ → List ℕ
intersection xs ys = filter (has_member ys) xs

-- the same list of numbers
abbrev pub is_same : List ℕ → List ℕ → Bool
is_same = bytes_eq

-- among types that aren't strings: one set is a subset of the other
abbrev pub is_set_below : TypeTable → ℕ → ℕ → Bool
is_set_below t a b = nat_lt b (completed_count t) && is_subset (set_of t a) (set_of t b)

-- a string is at or below itself and what the string type is at or below
abbrev pub is_below : TypeTable → ℕ → ℕ → Bool
is_below t a b =
    if nat_lt a (completed_count t) then is_set_below t a b else ((a == b) || is_set_below t t.string_type b)

-- the type that stands for a set
abbrev pub type_of_set : TypeTable → List ℕ → Option ℕ
type_of_set t members = position (is_same members) t.sets

-- The meet of two types is the type of the intersection of their sets, where that is nonempty.
-- A string and another type meet where one is at or below the other.
abbrev pub meet_of : TypeTable → ℕ → ℕ → Option ℕ
meet_of t a b =
    if nat_lt a (completed_count t) && nat_lt b (completed_count t)
    then type_of_set t (intersection (set_of t a) (set_of t b))
    else if is_below t a b then Some a else if is_below t b a then Some b else None

-- the written types at or below each of the types, in rising order
abbrev pub common : TypeTable → List ℕ → List ℕ
common h ts = filter (λ x. list_all (λ t. has_member (set_of h t) x) ts) (range_with_len 0 h.written)

-- a nonempty intersection of the sets of written types
pub record IsIntersection (h : TypeTable) (members : List ℕ) : Type 0 where
  pub types : List ℕ
  pub one : 0 < length types
  pub in_range : All (λ t. t < h.written) types
  pub is_common : members ≡ common h types
  pub nonempty : members ≢ []

abbrev pub IsDistinct : List (List ℕ) → Type 0
IsDistinct sets = (i j : ℕ) → i < j → j < length sets → slice_index_or sets i [] ≢ slice_index_or sets j []

-- all nonempty intersections, each once
pub record IsFamily (h : TypeTable) (sets : List (List ℕ)) : Type 0 where
  pub intersections : All (IsIntersection h) sets
  pub whole : (members : List ℕ) → IsIntersection h members → Contains sets members
  pub once : IsDistinct sets

-- `glbtype` and the number, from 1
abbrev pub glb_name : ℕ → Name
glb_name k = codes "glbtype" ++ decimal k

-- the written types, each at its place, then the added ones, then the strings
abbrev pub table_of : TypeTable → List (List ℕ) → List Name → TypeTable
table_of h added strings =
    record {
      names = h.names ++ map glb_name (range_with_len 1 (length added)) ++ strings;
      sets = h.sets ++ added;
      written = h.written;
      string_type = h.string_type;
    }

-- what is written: each type stands for the types that are at or below it along parents
pub record IsHierarchyOf (top text : Name) (ds : List Declared) (h : TypeTable) : Type 0 where
  pub names_are : h.names ≡ names_of top text ds
  pub one_each : length h.sets ≡ length h.names
  pub all_written : h.written ≡ length h.names
  pub string_is : h.string_type ≡ number_of h.names text
  pub sets_are : (a b : ℕ) → a < h.written → b < h.written →
      (has_member (set_of h b) a ≡ true) ↔ IsAtOrBelow (parents_of top text ds) a b
