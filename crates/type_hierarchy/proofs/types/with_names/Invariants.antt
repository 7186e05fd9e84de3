use Rattle.std.proofs.Common.{◌≡◌, ◌++◌, take, map}
use Rattle.std.specs.List.{range_with_len}
use Rattle.type_hierarchy.specs.Decls.{texts}
use Rattle.type_hierarchy.specs.Table.{glb_name}
use Rattle.type_hierarchy.proofs.types.with_names.Given as goal

abbrev pub invariant-loop-i : goal.invariant-loop-i
invariant-loop-i l = texts l.names.items ≡ texts l.initial.names.items ++ map glb_name (range_with_len 1 l.i)

abbrev pub invariant-loop-string : goal.invariant-loop-string
invariant-loop-string l = texts l.names.items ≡ texts l.initial.names.items ++ texts (take l.string-index l.strings)
