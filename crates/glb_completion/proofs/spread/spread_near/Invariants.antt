use Rattle.std.proofs.Common.{◌≤◌, ◌-◌}
use Rattle.glb_completion.specs.Inner.Kinds.{AreKinds}
use Rattle.glb_completion.proofs.SpreadLemmas.{IsSpreading}
use Rattle.glb_completion.proofs.spread.spread_near.Given as goal

abbrev pub invariant-loop-t : goal.invariant-loop-t
invariant-loop-t l =
    record {
      spreading : IsSpreading l.h l.initial.family.sets.keys l.family.sets.keys l.family.above.items l.at l.t;
      within : l.t ≤ l.count;
      kinds : AreKinds l.h l.family.sets.keys l.at l.kinds.shared.items l.kinds.places.items l.kinds.keys.keys;
    }

abbrev pub decreases-loop-t : goal.decreases-loop-t
decreases-loop-t l = l.count - l.t
