use Rattle.std.proofs.Common.{take}
use Rattle.type_hierarchy.specs.Decls.{texts}
use Rattle.type_hierarchy.specs.Named.{ArePlaces}
use Rattle.body_facts.proofs.lookup.places_of.Given as goal

abbrev pub invariant-loop-place : goal.invariant-loop-place
invariant-loop-place l = ArePlaces l.places.entries (take l.place (texts l.names))
