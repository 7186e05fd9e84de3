use Rattle.std.proofs.Common.{◌≤◌, length, slice_index}
use Rattle.fs_graph.specs.Visits.{plan_of}
use Rattle.fs_graph.specs.Inner.Heights.{IsAbove}
use Rattle.fs_graph.proofs.visit.height_above.Given as goal

abbrev pub invariant-loop-i : goal.invariant-loop-i
invariant-loop-i l =
    record {
      above : IsAbove (plan_of (length l.heights) l.starts l.arcs) (slice_index l.heights) l.node l.i l.height;
      from : slice_index l.starts l.node ≤ l.i;
    }
