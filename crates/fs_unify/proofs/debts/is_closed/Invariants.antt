use Rattle.std.proofs.Common.{take}
use Rattle.fs_model.specs.Claims.{Has}
use Rattle.fs_graph.specs.declared.graph.GraphArc.{GraphArc}
use Rattle.fs_graph.specs.Facts.{path_of}
use Rattle.fs_unify.specs.Inner.Hanging.{IsClosedArc}
use Rattle.fs_unify.proofs.debts.is_closed.Given as goal

abbrev pub invariant-loop-arc : goal.invariant-loop-arc
invariant-loop-arc l =
    (a : GraphArc) → Has a (take l.arc-index l.arc-items) →
    IsClosedArc (path_of l.off.at_root.now) (path_of l.off.anywhere.now) l.hanging.hang.items l.hanging.lead.items l.n a
