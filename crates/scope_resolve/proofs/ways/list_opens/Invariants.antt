use Rattle.scope_resolve.specs.Inner.Nets.{frame_in}
use Rattle.scope_resolve.specs.Inner.Filling.{state_of}
use Rattle.scope_resolve.proofs.Seeing.{AreListed}
use Rattle.scope_resolve.proofs.ways.list_opens.Given as goal

abbrev pub invariant-loop-k : goal.invariant-loop-k
invariant-loop-k l = AreListed (frame_in l.net.parts) (state_of l.trail) l.k l.opens.items
