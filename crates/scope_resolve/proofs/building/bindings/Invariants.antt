use Rattle.std.proofs.Common.{◌≡◌, map, take}
use Rattle.mrs_model.specs.Views.{variable_of, predication_of}
use Rattle.scope_resolve.specs.Inner.Building.{bindings_from}
use Rattle.scope_resolve.proofs.building.bindings.Given as goal

abbrev pub invariant-loop-own : goal.invariant-loop-own
invariant-loop-own l = l.out.items ≡ bindings_from (map variable_of l.vars) l.numbers (map predication_of l.eps) 0 (map predication_of (take l.own l.eps))
