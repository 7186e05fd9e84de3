use Rattle.scope_resolve.specs.Inner.Masks.{AreBegun}
use Rattle.scope_resolve.proofs.ways.begin.Given as goal

abbrev pub invariant-loop-place : goal.invariant-loop-place
invariant-loop-place l = AreBegun l.net.is_body.items l.opens l.place l.below.items l.under.items l.chain.items
