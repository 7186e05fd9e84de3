-- Rows of bits turned to columns.
use Rattle.std.specs.Prelude.{ℕ, ◌≡◌, ◌<◌, ◌≤◌, ◌+◌, ◌*◌, ◌-◌, ◌/◌, ◌%◌, ◌==◌, ◌⊎◌, Bool, true, List, length, slice_index, All, Vec}
use Rattle.std.specs.Global.{Global}
use Rattle.std.specs.Int.{bit_at}
use Rattle.type_hierarchy.specs.Bits.{has_bit, IsRow}
use Rattle.type_hierarchy.specs.Inner.Reach.{lists}
use Rattle.type_hierarchy.specs.Inner.Rows.{row_at}

-- for each number below `count`, the set of the rows that have it
pub record AreColumns (count : ℕ) (rows columns : List (Vec ℕ Global)) : Type 0 where
  pub one_each : length columns ≡ count
  pub rows_are : All (λ column. IsRow (length rows) column.items) columns
  pub told : (x k : ℕ) → x < count → k < length rows → has_bit (row_at (lists columns) x) k ≡ has_bit (row_at (lists rows) k) x

-- the numbers y for which P x y holds were put into the column of each x, and no others
pub record IsGrown (old new : List (Vec ℕ Global)) (P : ℕ → ℕ → Type 0) : Type 0 where
  pub size : length new ≡ length old
  pub keeps : (x y : ℕ) → x < length old → has_bit (row_at (lists old) x) y ≡ true → has_bit (row_at (lists new) x) y ≡ true
  pub has : (x y : ℕ) → x < length old → P x y → has_bit (row_at (lists new) x) y ≡ true
  pub only : (x y : ℕ) → x < length old → has_bit (row_at (lists new) x) y ≡ true → (has_bit (row_at (lists old) x) y ≡ true) ⊎ P x y

-- a square of 64 by 64 bits: the bit in row r and column c
abbrev pub cell : List ℕ → ℕ → ℕ → Bool
cell square r c = bit_at (slice_index square r) c == 1

-- where the bit in row r and column c comes from in a round: the lowest bit of r and the one of c that a shift stands for are
-- exchanged, and the former becomes the highest one of r
abbrev pub row_before : ℕ → ℕ → ℕ → ℕ
row_before shift r c = r / 2 + 32 * (c / shift % 2)

abbrev pub column_before : ℕ → ℕ → ℕ → ℕ
column_before shift r c = c - shift * (c / shift % 2) + shift * (r % 2)

abbrev pub IsTurned : ℕ → List ℕ → List ℕ → Type 0
IsTurned shift old new = (r c : ℕ) → r < 64 → c < 64 → cell new r c ≡ cell old (row_before shift r c) (column_before shift r c)

-- a mask has the columns whose number lacks the bit that a shift stands for
pub record IsMask (shift mask : ℕ) : Type 0 where
  pub within : shift < 64
  pub lacks : (c : ℕ) → c < 64 → c / shift % 2 ≡ 0 → (bit_at mask c ≡ 1) × (shift ≤ c → bit_at mask (c - shift) ≡ 0)
  pub has : (c : ℕ) → c < 64 → c / shift % 2 ≡ 1 → (bit_at mask c ≡ 0) × (shift ≤ c) × (bit_at mask (c - shift) ≡ 1)

-- what stands in the columns of a square ends below n, if its first column has the number 64 * place
abbrev pub EndsBelow : ℕ → ℕ → List ℕ → Type 0
EndsBelow n place square = (r c : ℕ) → r < 64 → c < 64 → cell square r c ≡ true → 64 * place + c < n
