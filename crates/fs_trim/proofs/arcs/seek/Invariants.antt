use Rattle.std.proofs.Common.{ℕ, ◌-◌, ◌<◌, ◌≤◌, length, slice_index}
use Rattle.fs_graph.specs.Visits.{feats_of}
use Rattle.fs_trim.proofs.arcs.seek.Given as goal

abbrev pub invariant-loop-place : goal.invariant-loop-place
invariant-loop-place l =
    record {
      within : l.place ≤ length l.arcs;
      before : (k : ℕ) → k < l.place → slice_index (feats_of l.arcs) k < l.feat.0;
    }

abbrev pub decreases-loop-place : goal.decreases-loop-place
decreases-loop-place l = length l.arcs - l.place
