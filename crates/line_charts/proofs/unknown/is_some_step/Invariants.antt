use Rattle.std.proofs.Common.{ℕ, ◌≡◌, ◌<◌, get_or}
use Rattle.morph_analysis.specs.LatticeViews.{step_of}
use Rattle.line_charts.specs.declared.unknown.Reach.{Reach}
use Rattle.line_charts.specs.Inner.Reaches.{reach_seen, IsStep}
use Rattle.line_charts.proofs.unknown.is_some_step.Given as goal

abbrev pub invariant-loop-i : goal.invariant-loop-i
invariant-loop-i l = (k : ℕ) (r : Reach) → k < l.i → r ≡ get_or l.ones k r → IsStep (reach_seen r) (step_of l.step) → ⊥
