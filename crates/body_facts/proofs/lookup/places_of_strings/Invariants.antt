use Rattle.std.proofs.Common.{take}
use Rattle.type_hierarchy.specs.Named.{ArePlaces}
use Rattle.body_facts.specs.Numbers.{strings_of}
use Rattle.body_facts.proofs.lookup.places_of_strings.Given as goal

abbrev pub invariant-loop-place : goal.invariant-loop-place
invariant-loop-place l = ArePlaces l.places.entries (take l.place (strings_of l.types))
