use Rattle.scope_model.specs.Frames.{Frame}
use Rattle.scope_model.specs.States.{State}
use Rattle.scope_resolve.specs.Inner.Pruning.{ArePairs, IsSeen, AreMasks}
use Rattle.scope_resolve.proofs.masks.Masks.spread_once.Given as goal

abbrev pub invariant-loop-k : goal.invariant-loop-k
invariant-loop-k l = (f : Frame) (s : State) → IsSeen f s l.ways → ArePairs f l.live.pairs.items → AreMasks f s l.ways.opens.items l.fn.self.sets.items → AreMasks f s l.ways.opens.items l.self.sets.items
