use Rattle.std.proofs.Common.{◌≤◌, length, map, drop}
use Rattle.profile_reports.specs.Inner.{HasJust}
use Rattle.profile_reports.proofs.texts.set_of.Given as goal

abbrev pub invariant-loop-i : goal.invariant-loop-i
invariant-loop-i l = record {
  low : l.i ≤ length l.texts;
  has : HasJust l.set (map (λ t. t.items) (drop l.i l.texts));
}

abbrev pub decreases-loop-i : goal.decreases-loop-i
decreases-loop-i l = l.i
