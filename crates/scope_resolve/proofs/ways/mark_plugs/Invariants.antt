use Rattle.std.proofs.Common.{◌≡◌, length, take}
use Rattle.std.specs.Prelude.{reverse}
use Rattle.scope_model.specs.States.{state, IsPlaced, IsFilled}
use Rattle.scope_resolve.specs.Inner.Masks.{AreMarks}
use Rattle.scope_resolve.proofs.ways.mark_plugs.Given as goal

abbrev pub invariant-loop-k : goal.invariant-loop-k
invariant-loop-k l = record {
  placed : AreMarks (IsPlaced (state l.trail.root (reverse (take l.k l.trail.plugs.items)))) l.placed.items;
  filled : AreMarks (IsFilled (state l.trail.root (reverse (take l.k l.trail.plugs.items)))) l.filled.items;
  size : length l.placed.items ≡ length l.fn.placed.items;
}
