-- What every system of types keeps.
use Rattle.std.specs.Prelude.{ℕ, ◌≡◌, ◌≢◌, ◌<◌, ◌≤◌, Bool, true, Option, Some, List, [], length, filter}
use Rattle.std.specs.List.{range_with_len}
use Rattle.type_hierarchy.specs.Table.{TypeTable, set_of, has_member, intersection, IsDistinct, count_of, is_below, meet_of}

-- An order with a greatest element, 0, in which two types that have a common subtype have a greatest one. This is
-- said of all numbers: one that no type has is one more string.
pub record IsTypeSystem (count : ℕ) (below : ℕ → ℕ → Bool) (meet : ℕ → ℕ → Option ℕ) : Type 0 where
  pub reflexive : (t : ℕ) → below t t ≡ true
  pub transitive : (t u v : ℕ) → below t u ≡ true → below u v ≡ true → below t v ≡ true
  pub antisymmetric : (t u : ℕ) → below t u ≡ true → below u t ≡ true → t ≡ u
  pub below_top : (t : ℕ) → below t 0 ≡ true
  pub meet_in : (t u m : ℕ) → t < count → u < count → meet t u ≡ Some m → m < count
  pub meet_below : (t u m : ℕ) → meet t u ≡ Some m → (below m t ≡ true) × (below m u ≡ true)
  pub meet_greatest : (t u m v : ℕ) → meet t u ≡ Some m → below v t ≡ true → below v u ≡ true → below v m ≡ true
  pub meet_exists : (t u v : ℕ) → below v t ≡ true → below v u ≡ true → (m : ℕ) × (meet t u ≡ Some m)

-- the laws of the types of a table
abbrev pub HasTypeLaws : TypeTable → Type 0
HasTypeLaws t = IsTypeSystem (count_of t) (is_below t) (meet_of t)

-- a rising list of numbers below n
abbrev pub IsRising : ℕ → List ℕ → Type 0
IsRising n xs = xs ≡ filter (has_member xs) (range_with_len 0 n)

-- sets of types, each set of a written type holding with a type all that is at or below it
pub record IsOrder (t : TypeTable) : Type 0 where
  pub at_least_top : 0 < t.written
  pub written_first : t.written ≤ length t.sets
  pub named : length t.sets ≤ length t.names
  pub string_in : t.string_type < t.written
  pub rising : (a : ℕ) → a < length t.sets → IsRising t.written (set_of t a)
  pub nonempty : (a : ℕ) → a < length t.sets → set_of t a ≢ []
  pub distinct : IsDistinct t.sets
  pub own : (a : ℕ) → a < t.written → has_member (set_of t a) a ≡ true
  pub down : (a b x : ℕ) → a < t.written → b < length t.sets → has_member (set_of t b) a ≡ true →
      has_member (set_of t a) x ≡ true → has_member (set_of t b) x ≡ true
  pub top_has_all : (x : ℕ) → x < t.written → has_member (set_of t 0) x ≡ true

-- each nonempty intersection of two sets is a set of the table
abbrev pub IsClosed : TypeTable → Type 0
IsClosed t = (a b : ℕ) → a < length t.sets → b < length t.sets → intersection (set_of t a) (set_of t b) ≢ [] →
    (m : ℕ) × (m < length t.sets) × (set_of t m ≡ intersection (set_of t a) (set_of t b))

-- a hierarchy of written types alone
pub record IsHierarchy (t : TypeTable) : Type 0 where
  pub order : IsOrder t
  pub all_written : t.written ≡ length t.sets
  pub all_named : length t.names ≡ length t.sets
  pub few : t.written ≤ 16386
