use Rattle.std.proofs.Common.{◌≡◌, map, take}
use Rattle.lexical_items.specs.Places.{place_in}
use Rattle.lexical_items.proofs.grown.places_of.Given as goal

abbrev pub invariant-loop-rule : goal.invariant-loop-rule
invariant-loop-rule l = l.out.items ≡ map (place_in l.places) (take l.rule-index l.rules)
