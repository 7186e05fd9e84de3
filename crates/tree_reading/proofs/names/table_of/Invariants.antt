use Rattle.std.proofs.Common.{map}
use Rattle.std.specs.String.{string_bytes}
use Rattle.tree_reading.specs.Inner.Uses.{AreTabledBelow}
use Rattle.tree_reading.proofs.names.table_of.Given as goal

abbrev pub invariant-loop-place : goal.invariant-loop-place
invariant-loop-place l = AreTabledBelow (record { names = map string_bytes l.names; parts = l.parts }) l.place l.table.entries
