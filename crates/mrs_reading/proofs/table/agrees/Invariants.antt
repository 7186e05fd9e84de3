use Rattle.std.proofs.Common.{◌≢◌, map, take}
use Rattle.std.specs.List.{Contains}
use Rattle.mrs_model.specs.Meanings.{Property}
use Rattle.mrs_model.specs.Views.{property_of}
use Rattle.mrs_reading.proofs.table.agrees.Given as goal

abbrev pub invariant-loop-prop : goal.invariant-loop-prop
invariant-loop-prop l = (q : Property) → Contains (map property_of (take l.prop-index l.props)) q → q.name ≢ l.name
