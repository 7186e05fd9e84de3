use Rattle.fs_graph.specs.Facts.{path_of}
use Rattle.fs_unify.specs.Inner.Hanging.{AreClosed}
use Rattle.fs_unify.proofs.debts.are_closed.Given as goal

abbrev pub invariant-loop-n : goal.invariant-loop-n
invariant-loop-n l = AreClosed (path_of l.off.at_root.now) (path_of l.off.anywhere.now) l.hanging.hang.items l.hanging.lead.items l.graph l.n
