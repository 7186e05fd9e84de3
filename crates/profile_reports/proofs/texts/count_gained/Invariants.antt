use Rattle.std.proofs.Common.{◌≡◌, ◌+◌, ◌≤◌, not, length, filter, map, drop}
use Rattle.profile_reports.specs.Inner.{has}
use Rattle.profile_reports.proofs.texts.count_gained.Given as goal

abbrev pub invariant-loop-text : goal.invariant-loop-text
invariant-loop-text l = record {
  room : l.gained ≤ l.text-index;
  same : l.gained + length (filter (λ t. not (has l.written t)) (map (λ t. t.items) (drop l.text-index l.came))) ≡ length (filter (λ t. not (has l.written t)) (map (λ t. t.items) l.came));
}
