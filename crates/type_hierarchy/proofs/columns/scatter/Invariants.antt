use Rattle.std.proofs.Common.{◌≡◌, ℕ, ◌≤◌, ◌<◌, ◌+◌, ◌-◌, ◌/◌, ◌%◌, true, All}
use Rattle.type_hierarchy.specs.Bits.{IsRow}
use Rattle.type_hierarchy.specs.Inner.Columns.{IsGrown, EndsBelow, cell}
use Rattle.type_hierarchy.proofs.columns.scatter.Given as goal

abbrev pub invariant-loop-j : goal.invariant-loop-j
invariant-loop-j l =
    record {
      grown : IsGrown l.initial.columns l.columns (λ x y. (l.first ≤ x) × (x < l.first + l.j) × (y / 64 ≡ l.place) × (cell l.block (x - l.first) (y % 64) ≡ true));
      rows : (n : ℕ) → EndsBelow n l.place l.block → All (λ column. IsRow n column.items) l.initial.columns → All (λ column. IsRow n column.items) l.columns;
    }
