use Rattle.std.proofs.Common.{map}
use Rattle.mrs_model.specs.Views.{property_of}
use Rattle.mrs_model.proofs.Rising.{RiseTo}
use Rattle.mrs_model.proofs.valid.props_rise.Given as goal

abbrev pub invariant-loop-k : goal.invariant-loop-k
invariant-loop-k l = RiseTo (map (λ p. p.name) (map property_of l.props)) l.k
