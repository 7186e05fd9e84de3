-- Types above one, among them those that stand immediately above it.
use Rattle.std.specs.Prelude.{ℕ, ◌≡◌, ◌<◌, ◌⊎◌, true, false, List}
use Rattle.type_hierarchy.specs.Bits.{has_bit}
use Rattle.type_hierarchy.specs.Table.{TypeTable, completed_count, is_below}
use Rattle.type_hierarchy.specs.Supertypes.{is_strictly_below}

-- a type of the row that is above t, and at or below u
pub record IsNearest (types : TypeTable) (t : ℕ) (row : List ℕ) (u : ℕ) : Type 0 where
  pub nearest : ℕ
  pub within : nearest < completed_count types
  pub is_in : has_bit row nearest ≡ true
  pub above : is_strictly_below types t nearest ≡ true
  pub below : is_below types nearest u ≡ true

-- each type above t is at or above one of the row
abbrev pub HasNearest : TypeTable → ℕ → List ℕ → Type 0
HasNearest types t row = (u : ℕ) → u < completed_count types → is_strictly_below types t u ≡ true → IsNearest types t row u

-- a row with types that are at or above x added
pub record HasPassed (types : TypeTable) (old new : List ℕ) (x : ℕ) : Type 0 where
  pub kept : (b : ℕ) → has_bit old b ≡ true → has_bit new b ≡ true
  pub added : (b : ℕ) → b < completed_count types → has_bit new b ≡ true → (has_bit old b ≡ true) ⊎ (is_below types x b ≡ true)

-- a type that is above t is taken, where it wasn't passed over, and types above it are passed over
pub data IsTaken (types : TypeTable) (t x : ℕ) (nearest nearest' passed passed' : List ℕ) : Type 0 where
  is_left : (has_bit passed x ≡ false → is_strictly_below types t x ≡ false) → nearest' ≡ nearest → passed' ≡ passed → IsTaken types t x nearest nearest' passed passed'
  is_taken : is_strictly_below types t x ≡ true → has_bit nearest' x ≡ true → ((b : ℕ) → has_bit nearest b ≡ true → has_bit nearest' b ≡ true) → HasPassed types passed passed' x → IsTaken types t x nearest nearest' passed passed'
