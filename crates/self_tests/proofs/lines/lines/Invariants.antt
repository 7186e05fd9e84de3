use Rattle.std.proofs.Common.{◌≡◌, ◌+◌, map}
use Rattle.std.specs.List.{range_with_len}
use Rattle.self_tests.specs.Lines.{line}
use Rattle.self_tests.proofs.lines.lines.Given as goal

abbrev pub invariant-loop-i : goal.invariant-loop-i
invariant-loop-i l = map (λ v. v.items) l.lines.items ≡ map (λ n. line (l.start + n)) (range_with_len 0 l.i)
