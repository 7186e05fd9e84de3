use Rattle.fs_unify.specs.Inner.Hanging.{AreKeptRows}
use Rattle.fs_unify.proofs.debts.rows_of.Given as goal

abbrev pub invariant-loop-n : goal.invariant-loop-n
invariant-loop-n l = AreKeptRows l.hanging.hang.items l.hanging.lead.items l.graph l.n l.types.items l.starts.items l.arcs.items
