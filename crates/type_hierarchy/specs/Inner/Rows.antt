-- Sets of types as rows of bits, by number.
use Rattle.std.specs.Prelude.{◌⊎◌, ℕ, ◌≡◌, ◌≢◌, ◌<◌, ◌||◌, ◌==◌, ◌↔◌, Bool, true, false, List, [], length, All, slice_index_or, Vec}
use Rattle.std.specs.Global.{Global}
use Rattle.type_hierarchy.specs.Bits.{has_bit, IsRow}
use Rattle.type_hierarchy.specs.Order.{Has, IsAtOrBelow}

-- as many rows as there are types
abbrev pub AreRows : List (Vec ℕ Global) → Type 0
AreRows rows = All (λ row. IsRow (length rows) row.items) rows

abbrev pub row_at : List (List ℕ) → ℕ → List ℕ
row_at rows b = slice_index_or rows b []

-- the type t was put into its own row and those that are marked
abbrev pub Marks : List (List ℕ) → List (List ℕ) → List Bool → ℕ → Type 0
Marks old new marks t =
    (length new ≡ length old)
    × ((b : ℕ) → b < length old → (x : ℕ) → x ≢ t → has_bit (row_at new b) x ≡ has_bit (row_at old b) x)
    × ((b : ℕ) → b < length old → has_bit (row_at new b) t ≡ (has_bit (row_at old b) t || (slice_index_or marks b false || (b == t))))

-- the rows are the order that parents give
abbrev pub HoldOrder : List (List ℕ) → List (List ℕ) → Type 0
HoldOrder parents rows =
    (a b : ℕ) → a < length rows → b < length rows → (has_bit (row_at rows b) a ≡ true) ↔ IsAtOrBelow parents a b

abbrev pub AreEmpty : List (List ℕ) → Type 0
AreEmpty rows = (b : ℕ) → b < length rows → (x : ℕ) → has_bit (row_at rows b) x ≡ false

-- each row has its own number, and no other
abbrev pub AreOwn : List (List ℕ) → Type 0
AreOwn rows = (b x : ℕ) → b < length rows → has_bit (row_at rows b) x ≡ (x == b)

-- a row was put into those of some types
pub record IsRaised (old new : List (List ℕ)) (types row : List ℕ) : Type 0 where
  pub size : length new ≡ length old
  pub grows : (b x : ℕ) → b < length old → has_bit (row_at old b) x ≡ true → has_bit (row_at new b) x ≡ true
  pub only : (b x : ℕ) → b < length old → has_bit (row_at new b) x ≡ true → (has_bit (row_at old b) x ≡ true) ⊎ (Has b types × (has_bit row x ≡ true))

-- each row has its own number, and else only types below it
pub record HoldBelow (parents rows : List (List ℕ)) : Type 0 where
  pub own : (b : ℕ) → b < length rows → has_bit (row_at rows b) b ≡ true
  pub sound : (a b : ℕ) → b < length rows → has_bit (row_at rows b) a ≡ true → IsAtOrBelow parents a b

-- the rows of some types have all that a row has
abbrev pub IsClosedAt : List (List ℕ) → List ℕ → List ℕ → Type 0
IsClosedAt rows types row = (p x : ℕ) → Has p types → has_bit row x ≡ true → has_bit (row_at rows p) x ≡ true

-- parents' rows have all that a row has
abbrev pub AreClosed : List (List ℕ) → List (List ℕ) → Type 0
AreClosed parents rows = (t : ℕ) → t < length rows → IsClosedAt rows (row_at parents t) (row_at rows t)
