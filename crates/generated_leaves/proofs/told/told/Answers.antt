use Rattle.generated_leaves.proofs.told.told.Goals as goal

pub returns-clause-said : goal.returns-clause-said
returns-clause-said c = rw c.deref.ensures at c.in_ok-preds.ensures.said
