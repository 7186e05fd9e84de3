use Rattle.std.specs.Prelude.{map, take}
use Rattle.std.specs.List.{Any}
use Rattle.mrs_model.specs.Valid.{StandsIn}
use Rattle.mrs_model.specs.Views.{predication_of}
use Rattle.mrs_transfer.specs.Inner.Trimming.{IsMarked}
use Rattle.mrs_transfer.proofs.marking.mark_eps.Given as goal

abbrev pub invariant-loop-ep : goal.invariant-loop-ep
invariant-loop-ep l = IsMarked (λ v. Any (StandsIn v) (map predication_of (take l.ep-index l.eps))) l.fn.marks l.marks
