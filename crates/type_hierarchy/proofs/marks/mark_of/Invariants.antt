use Rattle.type_hierarchy.proofs.MarkLemmas.{IsMarkTo}
use Rattle.type_hierarchy.proofs.marks.mark_of.Given as goal

abbrev pub invariant-loop-i : goal.invariant-loop-i
invariant-loop-i l = IsMarkTo l.words l.i l.mark
