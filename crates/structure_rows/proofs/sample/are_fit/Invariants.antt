use Rattle.std.proofs.Common.{All, take}
use Rattle.fs_unify.proofs.SampleLemmas.{IsFit}
use Rattle.structure_rows.proofs.sample.are_fit.Given as goal

abbrev pub invariant-loop-facts : goal.invariant-loop-facts
invariant-loop-facts l = All (IsFit l.types) (take l.facts-index l.constraints)
