use Rattle.std.proofs.Common.{◌≤◌, length, map, drop, string_bytes}
use Rattle.morph_analysis.specs.LatticeViews.{step_of}
use Rattle.morph_analysis.specs.Lattices.{AreFronts}
use Rattle.morph_analysis.proofs.arrivals.fronts_of.Given as goal

abbrev pub invariant-loop-left : goal.invariant-loop-left
invariant-loop-left l = record {
  within : l.left ≤ length l.words;
  fronts : AreFronts (map (λ s. step_of s.now) l.sorted) (drop l.left (map string_bytes l.words)) l.node l.nodes.items;
}

abbrev pub decreases-loop-left : goal.decreases-loop-left
decreases-loop-left l = l.left
