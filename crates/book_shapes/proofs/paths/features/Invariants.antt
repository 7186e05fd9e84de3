use Rattle.std.proofs.Common.{◌≡◌, map, option_map, take, string_bytes}
use Rattle.type_hierarchy.specs.Decls.{texts}
use Rattle.constraint_expand.specs.Books.{feature_named}
use Rattle.book_shapes.proofs.paths.features.Given as goal

abbrev pub invariant-loop-name : goal.invariant-loop-name
invariant-loop-name l = map (option_map (λ f. f.0)) l.found.items ≡ map (λ n. feature_named (texts l.feats) (string_bytes n)) (take l.name-index l.names.items)
