use Rattle.fs_graph.specs.Facts.{path_of}
use Rattle.fs_unify.specs.Debts.{HaveDebts}
use Rattle.fs_unify.specs.Owing.{speaks_of}
use Rattle.fs_unify.proofs.owed.debts_of.Given as goal

abbrev pub invariant-loop-rule : goal.invariant-loop-rule
invariant-loop-rule l = HaveDebts l.system (speaks_of (path_of l.off.at_root.now) (path_of l.off.anywhere.now)) l.rule l.debts.items
