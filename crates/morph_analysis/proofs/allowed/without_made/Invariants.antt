use Rattle.std.proofs.Common.{◌≡◌, map}
use Rattle.morph_analysis.proofs.allowed.without_made.Given as goal

abbrev pub invariant-loop-one : goal.invariant-loop-one
invariant-loop-one l = l.out.items ≡ map (λ x. x.chain) l.yielded
