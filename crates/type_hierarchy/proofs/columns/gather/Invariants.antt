use Rattle.std.proofs.Common.{◌≡◌, ℕ, ◌≤◌, ◌<◌, ◌+◌, length, slice_index}
use Rattle.type_hierarchy.specs.Inner.Reach.{lists}
use Rattle.type_hierarchy.specs.Inner.Rows.{row_at}
use Rattle.type_hierarchy.proofs.columns.gather.Given as goal

abbrev pub invariant-loop-j : goal.invariant-loop-j
invariant-loop-j l =
    record {
      size : length l.block ≡ 64;
      done : (k : ℕ) → k < l.j → slice_index l.block k ≡ slice_index (row_at (lists l.rows) (l.first + k)) l.place;
      rest : (k : ℕ) → l.j ≤ k → slice_index l.block k ≡ slice_index l.initial.block k;
      none : l.some ≡ 0 → (k : ℕ) → k < l.j → slice_index l.block k ≡ 0;
    }
