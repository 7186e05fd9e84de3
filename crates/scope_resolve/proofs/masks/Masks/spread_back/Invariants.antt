use Rattle.std.proofs.Common.{◌≤◌, length}
use Rattle.scope_model.specs.Frames.{Frame}
use Rattle.scope_model.specs.States.{State}
use Rattle.scope_resolve.specs.Inner.Pruning.{ArePairs, IsSeen, AreMasks}
use Rattle.scope_resolve.proofs.masks.Masks.spread_back.Given as goal

abbrev pub invariant-loop-left : goal.invariant-loop-left
invariant-loop-left l = record {
  within : l.left ≤ length l.live.pairs.items;
  kept : (f : Frame) (s : State) → IsSeen f s l.ways → ArePairs f l.live.pairs.items → AreMasks f s l.ways.opens.items l.fn.self.sets.items → AreMasks f s l.ways.opens.items l.self.sets.items;
}

abbrev pub decreases-loop-left : goal.decreases-loop-left
decreases-loop-left l = l.left
