use Rattle.scope_model.specs.Frames.{Frame}
use Rattle.scope_resolve.specs.Inner.Pruning.{IsPlan, ArePairs}
use Rattle.scope_resolve.proofs.live.Live.pick.Given as goal

abbrev pub invariant-loop-k : goal.invariant-loop-k
invariant-loop-k l = (f : Frame) → IsPlan f l.plan → ArePairs f l.self.pairs.items
