use Rattle.std.proofs.Common.{◌≡◌, take}
use Rattle.std.specs.List.{flat_map}
use Rattle.body_facts.specs.Writing.{list_names}
use Rattle.type_hierarchy.specs.Decls.{texts}
use Rattle.grammar_files.specs.Placings.{placed_of}
use Rattle.constraint_expand.specs.Found.{with_each, features_under}
use Rattle.constraint_expand.proofs.features.add_kind.Given as goal

abbrev pub invariant-loop-placed : goal.invariant-loop-placed
invariant-loop-placed l =
    texts l.features.keys ≡ with_each (texts l.initial.features.keys) (flat_map (λ p. features_under (list_names l.names) l.kind (placed_of p)) (take l.placed-index l.statements))
