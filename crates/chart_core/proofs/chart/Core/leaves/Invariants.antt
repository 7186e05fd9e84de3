use Rattle.std.proofs.Common.{◌≡◌, ◌++◌, vec_capacity}
use Rattle.std.specs.Prelude.{reverse}
use Rattle.chart_core.specs.Leaves.{leaf_rows}
use Rattle.chart_core.proofs.chart.Core.leaves.Given as goal

abbrev pub invariant-loop-row : goal.invariant-loop-row
invariant-loop-row g l =
    record {
      leaves : l.leaves.items ++ leaf_rows (reverse l.rows.items) ≡ leaf_rows l.fn.self.rows.items;
      room : vec_capacity l.leaves ≡ vec_capacity l.fn.self.spare;
    }

abbrev pub decreases-loop-row : goal.decreases-loop-row
decreases-loop-row g l = l.rows.len
