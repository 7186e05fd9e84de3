use Rattle.std.proofs.Common.{◌≡◌, ◌+◌, ◌++◌, ◌≤◌, map, drop}
use Rattle.profile_reports.specs.ItemsViews.{item_kept}
use Rattle.profile_reports.specs.Lines.{lines_from, counts_of}
use Rattle.profile_reports.specs.Inner.{sum_counts}
use Rattle.profile_reports.proofs.report.report_on.Given as goal

abbrev pub invariant-loop-i : goal.invariant-loop-i
invariant-loop-i l = record {
  lines : map (λ t. t.items) l.lines.items ++ lines_from (l.i + 1) (map item_kept (drop l.i l.items)) (drop l.i l.results) ≡ lines_from 1 (map item_kept l.items) l.results;
  room : l.counts.same + l.counts.differs + l.counts.new + l.counts.bad ≤ l.i;
  counts : sum_counts l.counts (counts_of (map item_kept (drop l.i l.items)) (drop l.i l.results)) ≡ counts_of (map item_kept l.items) l.results;
}
