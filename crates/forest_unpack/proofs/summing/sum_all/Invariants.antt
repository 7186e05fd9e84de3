use Rattle.forest_unpack.proofs.Totals.{SumsOf}
use Rattle.forest_unpack.proofs.summing.sum_all.Given as goal

abbrev pub invariant-loop-want : goal.invariant-loop-want
invariant-loop-want g l = SumsOf (g.F.Fulls.value l.fulls) (g.F.Fulls.wholes l.fulls) l.table l.wanted l.want-index l.sum
