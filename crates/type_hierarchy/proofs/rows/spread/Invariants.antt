use Rattle.type_hierarchy.proofs.RowLemmas.{Spreading}
use Rattle.type_hierarchy.proofs.rows.spread.Given as goal

abbrev pub invariant-loop-b : goal.invariant-loop-b
invariant-loop-b l = Spreading l.initial.rows l.rows l.marks l.t l.b
