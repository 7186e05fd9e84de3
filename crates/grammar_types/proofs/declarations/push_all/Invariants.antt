use Rattle.std.proofs.Common.{◌≡◌, ◌++◌, ◌∷◌, [], take}
use Rattle.std.specs.List.{flat_map}
use Rattle.std.specs.String.{string_bytes}
use Rattle.type_hierarchy.specs.Decls.{texts}
use Rattle.grammar_types.proofs.declarations.push_all.Given as goal

abbrev pub invariant-loop-name : goal.invariant-loop-name
invariant-loop-name l = texts l.names.items ≡ texts l.initial.names.items ++ flat_map (λ n. string_bytes n ∷ []) (take l.name-index l.more.items)
