use Rattle.std.proofs.Common.{map, take}
use Rattle.std.specs.List.{All}
use Rattle.mrs_model.specs.Views.{property_of}
use Rattle.mrs_text.specs.Stored.{IsStoredProperty}
use Rattle.mrs_text.proofs.storing.props_are_stored.Given as goal

abbrev pub invariant-loop-k : goal.invariant-loop-k
invariant-loop-k l = All IsStoredProperty (map property_of (take l.k l.props))
