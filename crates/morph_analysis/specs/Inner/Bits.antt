-- Tables of bits: what the code keeps of what may apply to what.
use Rattle.std.specs.Prelude.{ℕ, ◌+◌, ◌*◌, ◌/◌, ◌%◌, ◌==◌, ◌&&◌, not, nat_lt, Bool, List, map, slice_index}
use Rattle.std.specs.List.{range_with_len}
use Rattle.std.specs.Int.{bit_at}

-- rows of so many rules, and what may
pub record TableTree : Type 0 where
  pub rows : ℕ
  pub width : ℕ
  pub cells : List (List Bool)

abbrev pub has_bit : List ℕ → ℕ → Bool
has_bit words place = bit_at (slice_index words (place / 64)) (place % 64) == 1

abbrev pub is_inside : ℕ → ℕ → ℕ → ℕ → Bool
is_inside rows width row rule = nat_lt row rows && nat_lt rule width

-- a bit that is set forbids
abbrev pub allows_by : ℕ → ℕ → List ℕ → ℕ → ℕ → Bool
allows_by rows width words row rule = not (is_inside rows width row rule && has_bit words (row * width + rule))

abbrev pub cells_by : ℕ → ℕ → List ℕ → List (List Bool)
cells_by rows width words = map (λ row. map (λ rule. allows_by rows width words row rule) (range_with_len 0 width)) (range_with_len 0 rows)
