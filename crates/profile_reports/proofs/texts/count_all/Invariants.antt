use Rattle.std.proofs.Common.{◌+◌, ◌≤◌, length, map, drop}
use Rattle.profile_reports.specs.Inner.{has, IsCountOf}
use Rattle.profile_reports.proofs.texts.count_all.Given as goal

abbrev pub invariant-loop-i : goal.invariant-loop-i
invariant-loop-i l = record {
  room : l.counted.kept + l.counted.lost + l.i ≤ length l.written;
  counted : IsCountOf (has l.came) (map (λ t. t.items) (drop l.i l.written)) l.counted;
}

abbrev pub decreases-loop-i : goal.decreases-loop-i
decreases-loop-i l = l.i
