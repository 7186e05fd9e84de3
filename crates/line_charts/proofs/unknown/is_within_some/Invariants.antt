use Rattle.std.proofs.Common.{ℕ, ◌≡◌, ◌<◌, get_or}
use Rattle.morph_analysis.specs.LatticeViews.{step_of}
use Rattle.line_charts.specs.declared.unknown.Reach.{Reach}
use Rattle.line_charts.specs.Inner.Reaches.{reach_seen, IsWithin}
use Rattle.line_charts.proofs.unknown.is_within_some.Given as goal

abbrev pub invariant-loop-reach : goal.invariant-loop-reach
invariant-loop-reach l = (k : ℕ) (r : Reach) → k < l.reach-index → r ≡ get_or l.longs k r → IsWithin l.arrivals (reach_seen r) (step_of l.step) → ⊥
