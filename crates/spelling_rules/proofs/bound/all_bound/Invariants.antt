use Rattle.std.proofs.Common.{map, take}
use Rattle.lexicon.specs.Words.{Each}
use Rattle.spelling_rules.specs.Trees.{IsBound}
use Rattle.spelling_rules.specs.Views.{group_of}
use Rattle.spelling_rules.proofs.bound.all_bound.Given as goal

abbrev pub invariant-loop-group : goal.invariant-loop-group
invariant-loop-group l = Each IsBound (map group_of (take l.group-index l.groups))
