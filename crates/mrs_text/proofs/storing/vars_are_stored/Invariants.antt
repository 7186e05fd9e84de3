use Rattle.std.proofs.Common.{map, take}
use Rattle.std.specs.List.{All}
use Rattle.mrs_model.specs.Views.{variable_of}
use Rattle.mrs_text.specs.Stored.{IsStoredVariable}
use Rattle.mrs_text.proofs.storing.vars_are_stored.Given as goal

abbrev pub invariant-loop-k : goal.invariant-loop-k
invariant-loop-k l = All IsStoredVariable (map variable_of (take l.k l.vars))
