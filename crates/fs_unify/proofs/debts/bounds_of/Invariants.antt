use Rattle.fs_unify.specs.Debts.{HaveBounds}
use Rattle.fs_unify.proofs.debts.bounds_of.Given as goal

abbrev pub invariant-loop-n : goal.invariant-loop-n
invariant-loop-n l = HaveBounds l.system l.graph l.n l.bounds.items
