use Rattle.scope_resolve.proofs.masks.Masks.spread.Goals as goal

pub returns-then-not-spread_once : goal.returns-then-not-spread_once
returns-then-not-spread_once c = λ f s seen live old. c.spread_once.ensures f s seen live (c.loop.invariant f s seen live old)

pub returns-then-not-spread_back : goal.returns-then-not-spread_back
returns-then-not-spread_back c = λ f s seen live old. c.spread_back.ensures f s seen live (c.spread_once.ensures f s seen live (c.loop.invariant f s seen live old))

pub loop-preserved : goal.loop-preserved
loop-preserved c = λ f s seen live old. c.spread_back.ensures f s seen live (c.spread_once.ensures f s seen live (c.loop.invariant f s seen live old))
