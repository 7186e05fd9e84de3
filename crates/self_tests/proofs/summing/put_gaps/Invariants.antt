use Rattle.std.proofs.Common.{◌≡◌, ◌++◌, ◌+◌, map, drop}
use Rattle.self_tests.specs.SelfTests.{gap_lines}
use Rattle.self_tests.proofs.summing.put_gaps.Given as goal

abbrev pub invariant-loop-i : goal.invariant-loop-i
invariant-loop-i l =
    map (λ t. t.items) l.lines.items ++ gap_lines (l.i + 1) (drop l.i l.counts) ≡ map (λ t. t.items) l.initial.lines.items ++ gap_lines 1 l.counts
