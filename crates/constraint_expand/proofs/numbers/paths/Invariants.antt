use Rattle.std.proofs.Common.{◌≡◌, map, option_map, take}
use Rattle.type_hierarchy.specs.Decls.{texts}
use Rattle.constraint_expand.specs.Books.{feature_named}
use Rattle.constraint_expand.proofs.numbers.paths.Given as goal

abbrev pub invariant-loop-path : goal.invariant-loop-path
invariant-loop-path l =
    map (λ p. map (option_map (λ f. f.0)) p.items) l.found.items ≡ map (λ p. map (feature_named (texts l.feats)) (texts p.items)) (take l.path-index l.names.items)
