use Rattle.scope_resolve.proofs.Owning.{AreMarked}
use Rattle.scope_resolve.proofs.tables.marked.Given as goal

abbrev pub invariant-loop-at : goal.invariant-loop-at
invariant-loop-at l = AreMarked l.marks l.at l.out.items
