use Rattle.std.proofs.Common.{map, take}
use Rattle.lexicon.specs.Words.{Each}
use Rattle.spelling_rules.specs.Views.{sign_of}
use Rattle.spelling_rules.specs.Inner.Keeping.{IsFound}
use Rattle.spelling_rules.proofs.bound.is_bound.Given as goal

abbrev pub invariant-loop-sign : goal.invariant-loop-sign
invariant-loop-sign l = Each (IsFound (map sign_of l.group.pattern.items)) (map sign_of (take l.sign-index l.sign-items))
