use Rattle.std.proofs.Common.{ℕ, ◌≡◌, ◌+◌, ◌<◌, ◌≤◌, true, slice_index_or}
use Rattle.type_hierarchy.specs.Table.{is_below}
use Rattle.fs_closing.specs.Rules.{no_rule}
use Rattle.fs_closing.specs.Systems.{rules_of}
use Rattle.fs_closing.proofs.outline.end_of.Given as goal

abbrev pub invariant-loop-k : goal.invariant-loop-k
invariant-loop-k l =
    record {
      behind : l.i + 1 ≤ l.k;
      below : (m : ℕ) → l.i < m → m < l.k →
          is_below l.types (slice_index_or (rules_of l.constraints) (slice_index_or l.order m 0) no_rule).ty
          (slice_index_or (rules_of l.constraints) (slice_index_or l.order l.i 0) no_rule).ty ≡ true;
    }
