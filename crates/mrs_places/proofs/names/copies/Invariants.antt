use Rattle.std.proofs.Common.{◌≡◌, take}
use Rattle.type_hierarchy.specs.Decls.{texts}
use Rattle.mrs_places.proofs.names.copies.Given as goal

abbrev pub invariant-loop-name : goal.invariant-loop-name
invariant-loop-name l = texts l.copies.items ≡ texts (take l.name-index l.names)
