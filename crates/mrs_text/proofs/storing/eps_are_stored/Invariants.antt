use Rattle.std.proofs.Common.{map, take}
use Rattle.std.specs.List.{All}
use Rattle.mrs_model.specs.Views.{predication_of}
use Rattle.mrs_text.specs.Stored.{IsStoredPredication}
use Rattle.mrs_text.proofs.storing.eps_are_stored.Given as goal

abbrev pub invariant-loop-k : goal.invariant-loop-k
invariant-loop-k l = All IsStoredPredication (map predication_of (take l.k l.eps))
