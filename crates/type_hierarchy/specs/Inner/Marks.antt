-- Which words of a set have members, in one word: the bit w % 64 stands for each word w.
use Rattle.std.specs.Prelude.{ℕ, ◌≡◌, ◌<◌, ◌/◌, ◌%◌, ◌^◌, true, List, [], length, slice_index, slice_index_or, Vec}
use Rattle.std.specs.Global.{Global}
use Rattle.std.specs.Int.{bit_at}
use Rattle.type_hierarchy.specs.Bits.{has_bit}
use Rattle.type_hierarchy.specs.Inner.Reach.{lists}

-- the bit that stands for the word of a number
abbrev pub bit_of : ℕ → ℕ
bit_of x = x / 64 % 64

-- the bits that stand for the words with members, and no others
pub record IsMark (words : List ℕ) (mark : ℕ) : Type 0 where
  pub fits : mark < 2 ^ 64
  pub shows : (x : ℕ) → has_bit words x ≡ true → bit_at mark (bit_of x) ≡ 1
  pub tells : (g : ℕ) → bit_at mark g ≡ 1 → (x : ℕ) × (bit_of x ≡ g) × (has_bit words x ≡ true)

-- a mark for each row
pub record AreMarks (rows : List (Vec ℕ Global)) (marks : List ℕ) : Type 0 where
  pub one_each : length marks ≡ length rows
  pub each : (k : ℕ) → k < length rows → IsMark (slice_index_or (lists rows) k []) (slice_index marks k)
