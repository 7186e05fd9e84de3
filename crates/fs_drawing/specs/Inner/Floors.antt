-- Numbers that count by how far they are above a floor.
use Rattle.std.specs.Prelude.{ℕ, ◌≤◌, ◌-◌, List, map, slice_index}

abbrev pub all_over : ℕ → List ℕ → List ℕ
all_over floor written = map (λ v. v - floor) written

-- nothing is written above the top, which isn't below the floor
pub record AreBelow (floor top : ℕ) (written : List ℕ) : Type 0 where
  pub low : floor ≤ top
  pub past : (n : ℕ) → slice_index written n ≤ top
