use Rattle.std.proofs.Common.{◌≡◌, take}
use Rattle.type_hierarchy.specs.Decls.{texts}
use Rattle.constraint_expand.proofs.features.copied.Given as goal

abbrev pub invariant-loop-feature : goal.invariant-loop-feature
invariant-loop-feature l = texts l.names.items ≡ texts (take l.feature-index l.features.keys)
