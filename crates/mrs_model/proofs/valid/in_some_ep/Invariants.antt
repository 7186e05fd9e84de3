use Rattle.mrs_model.specs.Views.{predication_of}
use Rattle.mrs_model.specs.Valid.{StandsIn}
use Rattle.mrs_model.proofs.Rows.{NoneTo}
use Rattle.mrs_model.proofs.valid.in_some_ep.Given as goal

abbrev pub invariant-loop-k : goal.invariant-loop-k
invariant-loop-k l = NoneTo (λ x. StandsIn l.v (predication_of x)) l.eps l.k
