use Rattle.glb_completion.proofs.KindLemmas.{HasPlacesTo}
use Rattle.glb_completion.proofs.kinds.filled.Given as goal

abbrev pub invariant-loop-i : goal.invariant-loop-i
invariant-loop-i l = HasPlacesTo l.row l.places.items l.i
