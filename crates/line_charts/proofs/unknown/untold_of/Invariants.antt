use Rattle.std.proofs.Common.{List, ◌++◌, map, drop}
use Rattle.morph_analysis.specs.Lattices.{StepTree}
use Rattle.morph_analysis.specs.LatticeViews.{step_of}
use Rattle.line_charts.specs.Inner.Reaches.{reach_seen, IsTold, AreOutside}
use Rattle.line_charts.proofs.unknown.untold_of.Given as goal

abbrev pub invariant-loop-step : goal.invariant-loop-step
invariant-loop-step l =
    (us : List StepTree) → AreOutside (IsTold l.arrivals (map reach_seen l.ones) (map reach_seen l.longs)) (map step_of (drop l.step-index l.steps)) us
    → AreOutside (IsTold l.arrivals (map reach_seen l.ones) (map reach_seen l.longs)) (map step_of l.steps) (map step_of l.unknown.items ++ us)
