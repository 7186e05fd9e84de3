use Rattle.generate_model.proofs.ListLemmas.{isnt, settled_here, settled_next, settled_none}
use Rattle.generate_model.proofs.settled.first_settled.Goals as goal

pub returns-then-is_settled : goal.returns-then-is_settled
returns-then-is_settled c = c.loop-k.invariant _ (settled_here _ _ _ _ c.loop-k-test.true (c.is_settled.ensures.0 c.if-is_settled.true))

pub loop-k-preserved : goal.loop-k-preserved
loop-k-preserved c = λ o h. c.loop-k.invariant o (settled_next _ _ _ _ c.loop-k-test.true (isnt _ c.is_settled.ensures c.if-is_settled.false) o h)

pub returns : goal.returns
returns c = c.loop-k.invariant _ (settled_none _ _ _ c.loop-k-test.false)
