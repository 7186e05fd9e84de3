use Rattle.std.proofs.Common.{ℕ, ◌<◌, ◌≤◌, ◌-◌, length}
use Rattle.glb_completion.specs.Inner.Growing.{IsGrowing, IsSpread}
use Rattle.glb_completion.specs.Completion.{most_completed}
use Rattle.glb_completion.proofs.completion.closed.Given as goal

abbrev pub invariant-loop-at : goal.invariant-loop-at
invariant-loop-at l =
    record {
      growing : IsGrowing l.h l.family.sets.keys l.family.above.items;
      within : l.at ≤ length l.family.sets.keys;
      spread : (k : ℕ) → k < l.at → IsSpread l.h l.family.sets.keys k;
    }

abbrev pub decreases-loop-at : goal.decreases-loop-at
decreases-loop-at l = most_completed - l.at
