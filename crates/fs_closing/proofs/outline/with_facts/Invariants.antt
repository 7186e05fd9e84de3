use Rattle.std.proofs.Common.{◌≡◌, filter, slice_index_or}
use Rattle.std.specs.List.{range_with_len}
use Rattle.fs_closing.specs.Rules.{no_rule, has_facts}
use Rattle.fs_closing.specs.Systems.{rules_of}
use Rattle.fs_closing.proofs.outline.with_facts.Given as goal

abbrev pub invariant-loop-j : goal.invariant-loop-j
invariant-loop-j l = l.places.items ≡ filter (λ k. has_facts (slice_index_or (rules_of l.constraints) k no_rule)) (range_with_len 0 l.j)
