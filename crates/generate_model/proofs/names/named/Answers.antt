use Rattle.generate_model.specs.Contributing.{IsNamed}
use Rattle.generate_model.proofs.ListLemmas.{named_more}
use Rattle.generate_model.proofs.names.named.Goals as goal

pub loop-k-preserved : goal.loop-k-preserved
loop-k-preserved c = named_more (IsNamed c.args.types.now) _ _ _ _ _ _ c.loop-k-test.true c.in_ok-push.ensures.items c.in_ok-predicate.ensures c.loop-k.invariant
