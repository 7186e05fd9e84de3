use Rattle.std.proofs.Common.{◌≡◌, [], ◌∷◌, take}
use Rattle.std.specs.List.{flat_map}
use Rattle.type_hierarchy.specs.Decls.{texts}
use Rattle.constraint_expand.specs.Found.{with_each}
use Rattle.constraint_expand.proofs.features.add_body.Given as goal

abbrev pub invariant-loop-used : goal.invariant-loop-used
invariant-loop-used l = texts l.features.keys ≡ with_each (texts l.initial.features.keys) (flat_map (λ u. u.feature.now ∷ []) (take l.used-index l.used-items))
