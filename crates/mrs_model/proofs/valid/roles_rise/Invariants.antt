use Rattle.std.proofs.Common.{map}
use Rattle.mrs_model.specs.Views.{argument_of}
use Rattle.mrs_model.proofs.Rising.{RiseTo}
use Rattle.mrs_model.proofs.valid.roles_rise.Given as goal

abbrev pub invariant-loop-k : goal.invariant-loop-k
invariant-loop-k l = RiseTo (map (λ a. a.role) (map argument_of l.roles)) l.k
