use Rattle.std.proofs.Common.{◌≤◌, ◌<◌, ◌-◌}
use Rattle.chart_core.specs.Counted.{tally}
use Rattle.chart_core.proofs.counting.least_size.Given as goal

abbrev pub invariant-loop-low : goal.invariant-loop-low
invariant-loop-low g l =
    record {
      apart : l.low < l.high;
      inside : l.high ≤ l.below;
      few : tally g.S.Cover.Cover.extent l.least l.most l.low l.rows ≤ l.limit;
      many : l.limit < tally g.S.Cover.Cover.extent l.least l.most l.high l.rows;
    }

abbrev pub decreases-loop-low : goal.decreases-loop-low
decreases-loop-low g l = l.high - l.low
