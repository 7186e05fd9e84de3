use Rattle.std.proofs.Common.{ℕ, ◌<◌, ◌≤◌, length, slice_index}
use Rattle.fs_graph.specs.Visits.{feats_of}
use Rattle.fs_drawing.proofs.draw.place_of.Given as goal

abbrev pub invariant-loop-place : goal.invariant-loop-place
invariant-loop-place l =
    record {
      within : l.place ≤ length l.arcs;
      past : (k : ℕ) → l.place ≤ k → k < length l.arcs → l.feat.0 ≤ slice_index (feats_of l.arcs) k;
    }

abbrev pub decreases-loop-place : goal.decreases-loop-place
decreases-loop-place l = l.place
