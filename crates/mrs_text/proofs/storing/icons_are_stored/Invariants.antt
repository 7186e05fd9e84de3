use Rattle.std.proofs.Common.{map, take}
use Rattle.std.specs.List.{All}
use Rattle.mrs_model.specs.Views.{icon_of}
use Rattle.mrs_text.specs.Stored.{IsStoredConstraint}
use Rattle.mrs_text.proofs.storing.icons_are_stored.Given as goal

abbrev pub invariant-loop-k : goal.invariant-loop-k
invariant-loop-k l = All IsStoredConstraint (map icon_of (take l.k l.icons))
