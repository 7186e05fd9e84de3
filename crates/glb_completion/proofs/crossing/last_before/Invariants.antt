use Rattle.std.proofs.Common.{◌≤◌}
use Rattle.glb_completion.proofs.crossing.last_before.Given as goal

abbrev pub invariant-loop-end : goal.invariant-loop-end
invariant-loop-end l = l.end ≤ l.x

abbrev pub decreases-loop-end : goal.decreases-loop-end
decreases-loop-end l = l.end
