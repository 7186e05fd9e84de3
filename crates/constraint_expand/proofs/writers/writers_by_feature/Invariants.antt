use Rattle.std.proofs.Common.{◌≡◌, take}
use Rattle.std.specs.List.{flat_map}
use Rattle.type_hierarchy.specs.Decls.{Name}
use Rattle.body_facts.specs.Writing.{list_names}
use Rattle.grammar_files.specs.Placings.{placed_of}
use Rattle.constraint_expand.specs.Found.{numbers_noted, writings_by}
use Rattle.constraint_expand.proofs.writers.writers_by_feature.Given as goal

abbrev pub invariant-loop-placed : goal.invariant-loop-placed
invariant-loop-placed l =
    (f : Name) → numbers_noted l.writers.entries f ≡ flat_map (λ p. writings_by l.types (list_names l.names) f (placed_of p)) (take l.placed-index l.statements)
