use Rattle.std.proofs.Common.{◌≡◌, ◌++◌, flat_map}
use Rattle.std.specs.List.{range_with_len}
use Rattle.self_tests.specs.WorkloadInner.{spaced}
use Rattle.self_tests.specs.Lines.{phrase}
use Rattle.self_tests.proofs.lines.add_phrases.Given as goal

abbrev pub invariant-loop-before : goal.invariant-loop-before
invariant-loop-before l = l.line.items ≡ l.fn.line.items ++ spaced (flat_map (phrase l.place) (range_with_len 1 l.before))
