use Rattle.std.proofs.Common.{ℕ, ◌<◌, ◌≤◌, ◌-◌, length, slice_index}
use Rattle.fs_graph.specs.Visits.{feats_of}
use Rattle.fs_drawing.proofs.draw.place_by_halves.Given as goal

abbrev pub invariant-loop-low : goal.invariant-loop-low
invariant-loop-low l =
    record {
      order : l.low ≤ l.high;
      within : l.high ≤ length l.arcs;
      before : (k : ℕ) → k < l.low → slice_index (feats_of l.arcs) k < l.feat.0;
      past : (k : ℕ) → l.high ≤ k → k < length l.arcs → l.feat.0 ≤ slice_index (feats_of l.arcs) k;
    }

abbrev pub decreases-loop-low : goal.decreases-loop-low
decreases-loop-low l = l.high - l.low
