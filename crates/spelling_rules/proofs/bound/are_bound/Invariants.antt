use Rattle.std.proofs.Common.{map, take}
use Rattle.spelling_rules.specs.Trees.{AreBound}
use Rattle.spelling_rules.specs.Views.{rule_of}
use Rattle.spelling_rules.proofs.bound.are_bound.Given as goal

abbrev pub invariant-loop-rule : goal.invariant-loop-rule
invariant-loop-rule l = AreBound (map rule_of (take l.rule-index l.rules))
