use Rattle.std.proofs.Common.{List}
use Rattle.type_hierarchy.specs.declared.types.Ty.{Ty}
use Rattle.fs_graph.specs.Inside.{graph_map}
use Rattle.fs_graph.specs.Orders.{ArePlan}
use Rattle.fs_graph.specs.Visits.{targets_of}
use Rattle.fs_drawing.specs.Counting.{AreFollowed}
use Rattle.fs_drawing.proofs.few.few_paths.Given as goal

abbrev pub invariant-loop-at : goal.invariant-loop-at
invariant-loop-at l =
    record { followed : (types : List Ty) → ArePlan types l.starts l.arcs → AreFollowed (graph_map types l.starts l.arcs) (targets_of l.ends.items) l.at }
