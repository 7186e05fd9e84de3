use Rattle.std.proofs.Common.{◌≡◌}
use Rattle.mrs_model.specs.Views.{argument_of}
use Rattle.mrs_model.specs.Meanings.{of_var}
use Rattle.mrs_model.proofs.Rows.{NoneTo}
use Rattle.mrs_model.proofs.valid.fills_some.Given as goal

abbrev pub invariant-loop-k : goal.invariant-loop-k
invariant-loop-k l = NoneTo (λ x. (argument_of x).filler ≡ of_var l.v) l.roles l.k
