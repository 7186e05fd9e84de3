use Rattle.std.proofs.Common.{◌≡◌, take}
use Rattle.type_hierarchy.specs.Supertypes.{numbers_of}
use Rattle.type_hierarchy.proofs.supertypes.types_of.Given as goal

abbrev pub invariant-loop-number : goal.invariant-loop-number
invariant-loop-number l = numbers_of l.types.items ≡ take l.number-index l.numbers
