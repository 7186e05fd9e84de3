use Rattle.scope_resolve.specs.Inner.Nets.{frame_in}
use Rattle.scope_resolve.specs.Inner.Pruning.{IsPlan}
use Rattle.scope_resolve.proofs.plan.Plan.put_qeqs.Given as goal

abbrev pub invariant-loop-k : goal.invariant-loop-k
invariant-loop-k l = IsPlan (frame_in l.net.parts) l.fn.self → IsPlan (frame_in l.net.parts) l.self
