use Rattle.std.proofs.Common.{map}
use Rattle.std.specs.String.{string_bytes}
use Rattle.tree_reading.specs.Inner.Near.{IsNearBelow}
use Rattle.tree_reading.proofs.names.near_of.Given as goal

abbrev pub invariant-loop-place : goal.invariant-loop-place
invariant-loop-place l = IsNearBelow (record { names = map string_bytes l.names; parts = l.parts }) l.wide l.name l.place l.most
