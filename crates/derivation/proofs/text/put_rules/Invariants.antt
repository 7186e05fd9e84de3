use Rattle.std.proofs.Common.{◌≡◌, ◌++◌, length, map, reverse, take}
use Rattle.std.specs.List.{flat_map}
use Rattle.std.specs.String.{string_bytes}
use Rattle.derivation.specs.Text.{opening}
use Rattle.derivation.proofs.text.put_rules.Given as goal

abbrev pub invariant-loop-rule : goal.invariant-loop-rule
invariant-loop-rule l =
    (goal.iterator-loop-rule).can_next l.rule-iterator
    × (goal.iterator-loop-rule).is_finite l.rule-iterator
    × (l.into.items ≡ l.initial.into.items ++ flat_map (opening (map string_bytes l.names)) (take (length l.yielded) (reverse l.rules)))
