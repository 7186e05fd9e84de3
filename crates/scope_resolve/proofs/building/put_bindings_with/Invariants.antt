use Rattle.std.proofs.Common.{◌≡◌, ◌++◌, map, take}
use Rattle.mrs_model.specs.Views.{predication_of}
use Rattle.scope_resolve.specs.Inner.Building.{bindings_with}
use Rattle.scope_resolve.proofs.building.put_bindings_with.Given as goal

abbrev pub invariant-loop-at : goal.invariant-loop-at
invariant-loop-at l = l.out.items ≡ l.fn.out.items ++ bindings_with l.numbers l.quantifier l.x l.own 0 (map predication_of (take l.at l.eps))
