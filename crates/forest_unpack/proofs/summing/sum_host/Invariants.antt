use Rattle.forest_unpack.proofs.Totals.{SumOf}
use Rattle.forest_unpack.proofs.summing.sum_host.Given as goal

abbrev pub invariant-loop-class : goal.invariant-loop-class
invariant-loop-class g l = SumOf (g.F.Fulls.value l.fulls) (g.F.Fulls.wholes l.fulls) l.cover l.classes l.class-index l.sum
