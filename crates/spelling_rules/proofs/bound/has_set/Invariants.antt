use Rattle.std.proofs.Common.{map, take}
use Rattle.lexicon.specs.Words.{Has}
use Rattle.spelling_rules.specs.Trees.{variable}
use Rattle.spelling_rules.specs.Views.{sign_of}
use Rattle.spelling_rules.specs.Inner.Keeping.{Empty}
use Rattle.spelling_rules.proofs.bound.has_set.Given as goal

abbrev pub invariant-loop-sign : goal.invariant-loop-sign
invariant-loop-sign l = Has (variable l.name l.members) (map sign_of (take l.sign-index l.signs)) → Empty
