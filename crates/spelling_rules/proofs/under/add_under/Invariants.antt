use Rattle.std.proofs.Common.{◌≡◌, ◌++◌, map, take, string_bytes}
use Rattle.spelling_rules.specs.Views.{stems_in}
use Rattle.spelling_rules.specs.Inner.Keeping.{stem_under}
use Rattle.spelling_rules.proofs.under.add_under.Given as goal

abbrev pub invariant-loop-stem : goal.invariant-loop-stem
invariant-loop-stem l = stems_in l.out ≡ stems_in l.initial.out ++ map (stem_under l.rule) (map string_bytes (take l.stem-index l.stems))
