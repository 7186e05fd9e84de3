use Rattle.std.proofs.Common.{◌≡◌, ◌≤◌, ◌+◌, drop}
use Rattle.chart_core.specs.Counted.{tally}
use Rattle.chart_core.proofs.counting.count.Given as goal

abbrev pub invariant-loop-row : goal.invariant-loop-row
invariant-loop-row g l = record { few : l.count ≤ l.row-index; so_far : l.count + tally g.S.Cover.Cover.extent l.least l.most l.below (drop l.row-index l.rows) ≡ tally g.S.Cover.Cover.extent l.least l.most l.below l.rows }
