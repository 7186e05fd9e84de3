-- Kinds of types by their shared members of one set.
use Rattle.std.specs.Prelude.{ℕ, ◌≡◌, ◌<◌, ◌/◌, Bool, true, false, List, [], ◌∷◌, ◌++◌, length, map, slice_index, bit_and, All, Vec}
use Rattle.std.specs.Global.{Global}
use Rattle.type_hierarchy.specs.Bits.{has_bit, IsRow}
use Rattle.type_hierarchy.specs.Table.{TypeTable, set_of, has_member}
use Rattle.type_hierarchy.specs.Inner.Tables.{row_items}
use Rattle.glb_completion.specs.Inner.Growing.{IsMet}
use Rattle.glb_completion.specs.Inner.Crossings.{IsUnder}

-- the row has each member of the set that doesn't stand immediately below one type alone
abbrev pub HasShared : TypeTable → List ℕ → List ℕ → Type 0
HasShared h set shared = (x : ℕ) → x < h.written → has_bit set x ≡ true → has_bit shared x ≡ false → (p : ℕ) × IsUnder h x p

-- a shared member of a type, at or above y
pub record IsOver (h : TypeTable) (shared : List ℕ) (t y : ℕ) : Type 0 where
  pub member : ℕ
  pub within : member < h.written
  pub is_shared : has_bit shared member ≡ true
  pub in_type : has_member (set_of h t) member ≡ true
  pub over : has_member (set_of h member) y ≡ true

-- what a type has in common with the set is at or below shared members of the type
abbrev pub IsCovered : TypeTable → List ℕ → List ℕ → ℕ → Type 0
IsCovered h set shared t = (y : ℕ) → y < h.written → has_bit set y ≡ true → has_member (set_of h t) y ≡ true → IsOver h shared t y

-- places of words, of which the others have no member
pub record HasPlaces (row places : List ℕ) : Type 0 where
  pub within : All (λ p. p < length row) places
  pub each : (x : ℕ) → has_bit row x ≡ true → (i : ℕ) × (i < length places) × (slice_index places i ≡ x / 64)

-- what two rows have in common in the words at some places
abbrev pub key_of : List ℕ → List ℕ → List ℕ → List ℕ
key_of shared row places = map (λ p. bit_and (slice_index shared p) (slice_index row p)) places

-- a row with the members of a type
abbrev pub IsRowOf : TypeTable → ℕ → List ℕ → Type 0
IsRowOf h t row = (x : ℕ) → x < h.written → has_bit row x ≡ has_member (set_of h t) x

-- a type whose key it is, which is met
pub record IsKnown (h : TypeTable) (keys : List (Vec ℕ Global)) (at : ℕ) (shared places key : List ℕ) : Type 0 where
  pub type_is : ℕ
  pub within : type_is < h.written
  pub row : List ℕ
  pub members : IsRowOf h type_is row
  pub key_is : key ≡ key_of shared row places
  pub covered : IsCovered h (row_items keys at) shared type_is
  pub met : IsMet h keys at type_is

-- the kinds that were seen of the set at a place
pub record AreKinds (h : TypeTable) (keys : List (Vec ℕ Global)) (at : ℕ) (shared places : List ℕ) (seen : List (Vec ℕ Global)) : Type 0 where
  pub row : IsRow h.written shared
  pub has : HasShared h (row_items keys at) shared
  pub places_are : HasPlaces shared places
  pub known : (k : ℕ) → k < length seen → IsKnown h keys at shared places (row_items seen k)

-- a key is looked up, and put behind the others where it is new, or not looked up
pub data Looks (old new : List (Vec ℕ Global)) (key : List ℕ) (is_new : Bool) : Type 0 where
  was_seen : (k : ℕ) → k < length old → row_items old k ≡ key → new ≡ old → is_new ≡ false → Looks old new key is_new
  is_first : (v : Vec ℕ Global) → v.items ≡ key → new ≡ old ++ v ∷ [] → is_new ≡ true → Looks old new key is_new
  isnt_noted : new ≡ old → is_new ≡ true → Looks old new key is_new
