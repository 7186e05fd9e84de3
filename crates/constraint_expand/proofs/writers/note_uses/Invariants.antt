use Rattle.std.proofs.Common.{◌≡◌, ◌++◌, [], ◌∷◌, cond, take}
use Rattle.std.specs.List.{flat_map}
use Rattle.type_hierarchy.specs.Decls.{Name}
use Rattle.body_facts.specs.BracketUses.{used_of}
use Rattle.constraint_expand.specs.Features.{is_writing}
use Rattle.constraint_expand.specs.Found.{numbers_noted}
use Rattle.constraint_expand.proofs.writers.note_uses.Given as goal

abbrev pub invariant-loop-used : goal.invariant-loop-used
invariant-loop-used l =
    (f : Name) → numbers_noted l.writers.entries f
    ≡ numbers_noted l.initial.writers.entries f ++ flat_map (λ u. cond (is_writing f (used_of u)) (l.ty.0 ∷ []) []) (take l.used-index l.used-items)
