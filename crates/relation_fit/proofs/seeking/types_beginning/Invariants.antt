use Rattle.relation_fit.specs.Sought.{IsPredicate}
use Rattle.relation_fit.proofs.Scanning.{AreFound}
use Rattle.relation_fit.proofs.seeking.types_beginning.Given as goal

abbrev pub invariant-loop-t : goal.invariant-loop-t
invariant-loop-t l = AreFound (IsPredicate l.types l.pred) 0 l.t l.found.items
