-- Sets of numbers as words of 64 bits: the number x is bit x % 64 of word x / 64.
use Rattle.std.specs.Prelude.{ℕ, ◌≡◌, ◌<◌, ◌≤◌, ◌+◌, ◌*◌, ◌/◌, ◌%◌, ◌^◌, ◌==◌, Bool, false, List, length, filter, slice_index, All}
use Rattle.std.specs.Int.{bit_at}
use Rattle.std.specs.List.{range_with_len}

-- whether the set has the number
abbrev pub has_bit : List ℕ → ℕ → Bool
has_bit words x = bit_at (slice_index words (x / 64)) (x % 64) == 1

-- the members below n, in rising order
abbrev pub bits_below : ℕ → List ℕ → List ℕ
bits_below n words = filter (λ x. has_bit words x) (range_with_len 0 n)

-- words for the numbers below n, and for no others
pub record IsRow (n : ℕ) (words : List ℕ) : Type 0 where
  pub enough : n ≤ 64 * length words
  pub spare : 64 * length words < n + 64
  pub words_fit : All (λ w. w < 2 ^ 64) words
  pub none_past : (x : ℕ) → n ≤ x → has_bit words x ≡ false
