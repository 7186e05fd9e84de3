use Rattle.std.proofs.Common.{length}
use denote.Text.{Utf8}
use denote.Shadow.{shadow}
use Rattle.tree_reading.specs.Inner.Begun.{IsBefore}
use Rattle.tree_reading.proofs.reading.read.Given as goal

abbrev pub invariant-leaves : goal.invariant-leaves
invariant-leaves l = record { text : shadow (Utf8 l.rest); before : IsBefore l.names l.stack.items l.text l.rest }

abbrev pub decreases-leaves : goal.decreases-leaves
decreases-leaves l = length l.rest
