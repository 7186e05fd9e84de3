use Rattle.std.proofs.Common.{ℕ, ◌<◌}
use Rattle.morph_analysis.specs.LatticeViews.{step_of}
use Rattle.line_charts.specs.Inner.Reaches.{reach_seen, IsWithinAt}
use Rattle.line_charts.proofs.unknown.is_within.Given as goal

abbrev pub invariant-loop-place : goal.invariant-loop-place
invariant-loop-place l = (k : ℕ) → k < l.place → IsWithinAt l.arrivals (reach_seen l.reach) (step_of l.step) k → ⊥
