use Rattle.std.proofs.Common.{map, take}
use Rattle.std.specs.List.{All}
use Rattle.mrs_model.specs.Views.{argument_of}
use Rattle.mrs_text.specs.Stored.{IsStoredArgument}
use Rattle.mrs_text.proofs.storing.roles_are_stored.Given as goal

abbrev pub invariant-loop-k : goal.invariant-loop-k
invariant-loop-k l = All IsStoredArgument (map argument_of (take l.k l.roles))
