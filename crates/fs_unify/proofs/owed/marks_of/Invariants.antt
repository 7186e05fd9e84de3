use Rattle.fs_graph.specs.Facts.{path_of}
use Rattle.fs_unify.specs.Owing.{speaks_of}
use Rattle.fs_unify.specs.Inner.Marks.{HaveMarks}
use Rattle.fs_unify.proofs.owed.marks_of.Given as goal

abbrev pub invariant-loop-rule : goal.invariant-loop-rule
invariant-loop-rule l = HaveMarks l.system (speaks_of (path_of l.at_root) (path_of l.anywhere)) l.rule l.marks.items
