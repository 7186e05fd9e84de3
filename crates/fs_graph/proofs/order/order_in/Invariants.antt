use Rattle.std.proofs.Common.{length}
use Rattle.fs_graph.specs.Visits.{plan_of}
use Rattle.fs_graph.specs.Inner.Going.{IsGoing, left_of}
use Rattle.fs_graph.specs.Inner.Heights.{AreHeights}
use Rattle.fs_graph.proofs.order.order_in.Given as goal

abbrev pub invariant-loop-frame : goal.invariant-loop-frame
invariant-loop-frame l =
    record {
      going : IsGoing (length l.types) l.starts l.arcs l.order.numbers.items l.order.order.items l.order.closed.items l.order.open.items;
      heights : AreHeights (plan_of (length l.types) l.starts l.arcs) l.order.closed.items l.order.heights.items;
    }

abbrev pub decreases-loop-frame : goal.decreases-loop-frame
decreases-loop-frame l = left_of l.starts (length l.arcs) l.order.numbers.items l.order.open.items
