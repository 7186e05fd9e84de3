use Rattle.glb_completion.proofs.GrowingLemmas.{IsBeginning}
use Rattle.glb_completion.proofs.family.Family.written.Given as goal

abbrev pub invariant-loop-t : goal.invariant-loop-t
invariant-loop-t l = IsBeginning l.h l.sets.keys l.above.items l.t
