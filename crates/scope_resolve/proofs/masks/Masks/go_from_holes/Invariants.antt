use Rattle.scope_model.specs.Frames.{Frame}
use Rattle.scope_resolve.specs.Inner.Filling.{state_of}
use Rattle.scope_resolve.specs.Inner.Pruning.{IsPlan, IsSeen, AreMasks}
use Rattle.scope_resolve.proofs.masks.Masks.go_from_holes.Given as goal

abbrev pub invariant-loop-k : goal.invariant-loop-k
invariant-loop-k l = (f : Frame) → IsSeen f (state_of l.trail) l.ways → IsPlan f l.plan → AreMasks f (state_of l.trail) l.ways.opens.items l.fn.self.sets.items → AreMasks f (state_of l.trail) l.ways.opens.items l.self.sets.items
